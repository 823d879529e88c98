-- `boundary::corners_at`: a triangle that passed has the three vertices that its edges leave no choice of. Assumes nothing.
use native.Mathlib.Omega.{arith}
use mathlib.Core.Path.{refl}
use Rattle.std.proofs.Common.{rules}
use Rattle.laws.proofs.Members.{get_or_in}
use Rattle.boundary.proofs.Tests.{mapped_three}
use Rattle.boundary.proofs.Laws.{edge_there, corners_read}
use Rattle.boundary.proofs.corners_at.Goals as goal

pub slots_at-requires : goal.slots_at-requires
slots_at-requires c = (omega arith, ((omega arith, omega arith), c.requires.row))

pub slots_at-requires-2 : goal.slots_at-requires-2
slots_at-requires-2 c = (omega arith, ((omega arith, omega arith), edge_there c.requires c.slots_at.ensures _ (get_or_in c.slots_at.result 0 0 (omega (arith, c.slots_at.type_inv)))))

pub slots_at-requires-3 : goal.slots_at-requires-3
slots_at-requires-3 c = (omega arith, ((omega arith, omega arith), edge_there c.requires c.slots_at.ensures _ (get_or_in c.slots_at.result 1 0 (omega (arith, c.slots_at.type_inv)))))

pub slots_at-requires-4 : goal.slots_at-requires-4
slots_at-requires-4 c = (omega arith, ((omega arith, omega arith), edge_there c.requires c.slots_at.ensures _ (get_or_in c.slots_at.result 2 0 (omega (arith, c.slots_at.type_inv)))))

pub returns : goal.returns
returns c =
    corners_read c.requires _ _ _ c.slots_at.ensures (mapped_three _ c.slots_at.result (search rules) c.slots_at-2.ensures c.slots_at-3.ensures c.slots_at-4.ensures) refl (search rules) c.corners.ensures
