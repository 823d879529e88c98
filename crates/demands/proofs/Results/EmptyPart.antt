-- A part becomes empty and fills again, computed: the two triangles of B come together in part 1 and part again.
-- Assumes nothing.
use mathlib.Core.Path.{◌≡◌, refl}
use Rattle.paper.specs.Outcome.{accepted}
use Rattle.paper.specs.Placement.{place_in}
use Rattle.paper.specs.Move
use Rattle.paper.specs.Move.{migrate_of}
use Rattle.demands.specs.Reverse
use Rattle.demands.specs.Reverse.{reverse_of}
use Rattle.paper.proofs.Meshes.{B, A_in_1}
use Rattle.paper.proofs.Table.{send}
use Rattle.demands.proofs.Results.Examples.{parts_b}

-- triangle 1 of B to part 1: part 0 becomes empty
pub part_empties : migrate_of B (send 2 1 1) 544 14 ≡ accepted (record { image = A_in_1; rows = 11; objects_moved = 1 })
unfolding Move.computes
part_empties = refl

-- and back to part 0, by the reverse list: B again
pub list_turned : reverse_of (place_in parts_b) (send 2 1 1) ≡ send 2 1 0
unfolding Move.computes Reverse.computes
list_turned = refl

pub part_fills : migrate_of A_in_1 (send 2 1 0) 712 11 ≡ accepted (record { image = B; rows = 14; objects_moved = 1 })
unfolding Move.computes
part_fills = refl
