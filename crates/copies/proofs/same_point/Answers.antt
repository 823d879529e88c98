-- `copies::same_point` meets its contract: `==` of two arrays is the test of their numbers. Assumes nothing.
use mathlib.Core.Path.{ap₂, ◌∙◌}
use Rattle.laws.specs.Lists.{same}
use Rattle.copies.proofs.Compare.{pointwise_same}
use Rattle.copies.proofs.same_point.Goals as goal

pub returns : goal.returns
returns c = c.eq.ensures ∙ pointwise_same _ _ ∙ ap₂ same c.point.ensures c.point-2.ensures
