-- `boundary::least`: the faces, one a turn. Assumes nothing.
use native.Mathlib.Omega.{arith}
use Rattle.boundary.proofs.Extremes.{low_start, low_more, low_done}
use Rattle.boundary.proofs.least.Goals as goal

pub loop-face-init : goal.loop-face-init
loop-face-init g c = low_start _ (omega (arith, c.told-faces))

pub loop-face-preserved : goal.loop-face-preserved
loop-face-preserved g c = rw c.min-least.ensures (low_more _ _ _ (omega (arith, c.told-faces, c.loop-face-test.true)) c.loop-face.invariant)

pub returns : goal.returns
returns g c = low_done _ _ _ _ c.told-faces (omega (arith, c.told-faces)) c.loop-face.invariant
