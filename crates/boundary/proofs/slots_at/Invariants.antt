-- `boundary::slots_at`: the words of the body, one a turn. Assumes nothing.
use Prim.Native.Nat.{ℕ, ◌+◌, ◌*◌, ◌<◌}
use mathlib.Core.Path.{◌≡◌}
use lib.ListN.{length, get_or}
use Rattle.field.specs.Bytes.{u32_at}
use Rattle.boundary.proofs.slots_at.Given as goal

abbrev pub invariant-loop-i : goal.invariant-loop-i
invariant-loop-i g l = (length l.slots ≡ g.row.N) × ((j : ℕ) → j < l.i → get_or l.slots j 0 ≡ u32_at l.tables.image.now (l.at + 24 + 4 * j))
