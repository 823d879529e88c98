-- `boundary::greatest`: the faces, one a turn. Assumes nothing.
use Rattle.boundary.specs.Boundary.{HighestAt}
use Rattle.boundary.proofs.greatest.Given as goal

abbrev pub invariant-loop-face : goal.invariant-loop-face
invariant-loop-face g l = HighestAt l.faces l.face-index l.place l.greatest
