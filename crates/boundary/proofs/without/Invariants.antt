-- `boundary::without`: the places of the rest, one a turn. Assumes nothing.
use Prim.Native.Nat.{ℕ, ◌<◌}
use mathlib.Core.Path.{◌≡◌}
use lib.ListN.{length, get_or}
use Rattle.std.specs.Prelude.{remove}
use Rattle.boundary.proofs.without.Given as goal

abbrev pub invariant-loop-i : goal.invariant-loop-i
invariant-loop-i g l = (length l.rest ≡ g.row.M) × ((j : ℕ) → j < l.i → get_or l.rest j 0 ≡ get_or (remove l.vertices l.place) j 0)
