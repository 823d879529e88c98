-- `fields::rest_is_zero`: the words behind the slots are zero exactly where their bytes are. Assumes nothing.
use Rattle.fields.proofs.Laws.{zero_tests}
use Rattle.fields.proofs.rest_is_zero.Goals as goal

pub returns : goal.returns
returns c = λ few. let a = c.args in cc (zero_tests a.image.now a.at a.dim c.requires.dim_nonzero few)
