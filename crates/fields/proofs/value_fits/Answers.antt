-- `fields::value_fits`: by kind. Assumes nothing.
use Rattle.fields.proofs.Laws.{value_tests}
use Rattle.fields.proofs.value_fits.Goals as goal

pub returns : goal.returns
returns c = rw c.is_finite.ensures (value_tests _ _)
