-- `boundary::corners`: the places, one a turn. Assumes nothing.
use mathlib.Core.Path.{◌≡◌}
use lib.ListN.{length}
use Rattle.boundary.specs.Boundary.{CornersOf}
use Rattle.boundary.proofs.corners.Given as goal

abbrev pub invariant-loop-place : goal.invariant-loop-place
invariant-loop-place g l = (length l.corners ≡ g.row.N) × CornersOf l.faces g.row.N l.place l.corners
