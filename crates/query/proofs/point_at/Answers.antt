-- `query::point_at`: three words of the image, each finite. Assumes nothing.
use mathlib.Core.Path.{ap, ◌∙◌}
use Rattle.field.specs.Bytes.{finite}
use Rattle.query.proofs.Points.{finites, point_is}
use Rattle.query.proofs.point_at.Goals as goal

pub real-requires : goal.real-requires
real-requires c = ap finite c.long_at.ensures ∙ (finites c.args.image.now c.args.at c.requires.fits).x

pub real-requires-2 : goal.real-requires-2
real-requires-2 c = ap finite c.long_at-2.ensures ∙ (finites c.args.image.now c.args.at c.requires.fits).y

pub real-requires-3 : goal.real-requires-3
real-requires-3 c = ap finite c.long_at-3.ensures ∙ (finites c.args.image.now c.args.at c.requires.fits).z

pub returns : goal.returns
returns c = point_is c.args.image.now c.args.at c.long_at.ensures c.long_at-2.ensures c.long_at-3.ensures c.real.ensures c.real-2.ensures c.real-3.ensures
