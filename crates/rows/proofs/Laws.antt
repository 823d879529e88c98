-- The rows of an indexed image stand within its tables. Assumes nothing.
use Prim.Native.Nat.{ℕ, ◌+◌, ◌-◌, ◌≤◌, ◌<◌}
use native.Mathlib.Nat.{le_refl}
use native.Mathlib.Omega.{arith}
use mathlib.Core.Path.{◌≡◌}
use mathlib.Core.List.{List, []}
use lib.ListN.{length, get_or}
use Rattle.laws.proofs.Members.{get_or_in, part_lt}
use Rattle.paper.specs.Image.{row_at, no_row}
use Rattle.index.specs.Index.{set_in, max_rows, Indexed}
use Rattle.index.proofs.RowFields.{row_long_enough}
use Rattle.index.proofs.Answers.{starts_ascend}

module _ {b offs starts : List ℕ} {n : ℕ} (index : Indexed b offs starts n) where
  -- the rows of a part lie before the total
  pub part_room : (p : ℕ) → p < n → get_or starts p 0 + length (get_or (set_in b) p []) ≤ get_or starts n 0
  part_room p h = omega (arith, index.next p h, starts_ascend index (p + 1) n (omega arith) (le_refl n))

  pub part-rows : (p : ℕ) → p < n → get_or starts (p + 1) 0 - get_or starts p 0 ≡ length (get_or (set_in b) p [])
  part-rows p h = omega (arith, index.next p h)

  module _ (p s : ℕ) (h : s < length (get_or (set_in b) p [])) where
    pub part_there : p < n
    part_there = omega (arith, part_lt (set_in b) p (get_or (get_or (set_in b) p []) s no_row) (get_or_in (get_or (set_in b) p []) s no_row h), index.count)

    pub row_there : get_or starts p 0 + s < max_rows
    row_there = omega (arith, part_room p part_there, index.total_few)

    pub offset_there : get_or offs (get_or starts p 0 + s) 0 + 48 ≤ length b
    offset_there = omega (arith, index.there p s h, row_long_enough (row_at (set_in b) p s).mask)
