-- `fields::point_fits`: three finite numbers. Assumes nothing.
use Rattle.fields.proofs.Laws.{point_tests}
use Rattle.fields.proofs.point_fits.Goals as goal

pub returns : goal.returns
returns c = let a = c.args in cc (point_tests a.image.now a.at)
