-- `boundary::without`: the places of the rest, one a turn. Assumes nothing.
use native.Mathlib.Omega.{arith}
use mathlib.Core.Path.{◌∙◌}
use Rattle.boundary.proofs.Filling.{filled_more, rest_below, rest_above, rest_filled}
use Rattle.boundary.proofs.without.Goals as goal
use Rattle.boundary.proofs.without.Goals.{then-i-place, else-i-place}

pub loop-i-preserved : goal.loop-i-preserved
loop-i-preserved g c =
    filled_more _ _ _ _ _ c.loop-i-test.true c.loop-i.invariant
    (elim c.if-i-place.branch [
      | then-i-place w ↦ w.rest-is ∙ rest_below c.args.vertices.now c.args.place c.loop-i.i (omega (arith, c.told-vertices, c.requires.there)) w.if-i-place.true
      | else-i-place w ↦ w.rest-is ∙ rest_above c.args.vertices.now c.args.place c.loop-i.i (omega (arith, c.told-vertices, c.requires.there)) w.if-i-place.false
    ])

pub returns : goal.returns
returns g c = rest_filled _ _ _ _ _ _ c.requires.simplex c.told-vertices c.requires.there c.loop-i-test.false c.loop-i.invariant
