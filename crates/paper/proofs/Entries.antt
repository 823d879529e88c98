-- The number of an entry, of which an answer has 32 bits: below 4,294,967,296 it is given as it is, and from there on as the last of these.
-- Assumes nothing.
use Prim.Native.Nat.{ℕ, ◌<◌, ◌≤◌}
use mathlib.Core.Path.{◌≡◌, ap}
use mathlib.Core.Bool.{Bool, cond}
use borrow.Author.Tests.{lt-ltb, le-ltb}
use Rattle.paper.specs.Outcome.{at_entry, at_row}

pub entry_low : (i : ℕ) → i < 4294967296 → at_entry i ≡ at_row i 0
entry_low i h = ap (λ (t : Bool). at_row (cond t i 4294967295) 0) (lt-ltb i 4294967296 h)

pub entry_high : (i : ℕ) → 4294967296 ≤ i → at_entry i ≡ at_row 4294967295 0
entry_high i h = ap (λ (t : Bool). at_row (cond t i 4294967295) 0) (le-ltb i 4294967296 h)
