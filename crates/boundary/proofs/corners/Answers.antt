-- `boundary::corners`: the least, and then the places, one a turn. Assumes nothing.
use native.Mathlib.Omega.{arith}
use Rattle.boundary.proofs.Filling.{corners_more}
use Rattle.boundary.proofs.corners.Goals as goal

pub loop-place-preserved : goal.loop-place-preserved
loop-place-preserved g c = corners_more _ _ _ _ _ (omega (arith, c.requires.simplex, c.loop-place-test.true)) c.loop-place.invariant c.greatest.ensures
