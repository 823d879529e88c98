-- `boundary::greatest`: the faces, one a turn. Assumes nothing.
use Rattle.boundary.proofs.Extremes.{high_more}
use Rattle.boundary.proofs.greatest.Goals as goal

pub loop-face-preserved : goal.loop-face-preserved
loop-face-preserved g c = rw c.max-greatest.ensures (high_more _ _ _ _ c.loop-face.invariant)
