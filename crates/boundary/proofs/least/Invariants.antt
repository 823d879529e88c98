-- `boundary::least`: the faces, one a turn. Assumes nothing.
use Rattle.boundary.proofs.Extremes.{Lowering}
use Rattle.boundary.proofs.least.Given as goal

abbrev pub invariant-loop-face : goal.invariant-loop-face
invariant-loop-face g l = Lowering l.faces l.face-index l.least
