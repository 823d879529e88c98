-- What must stand before rules are judged: that a row's turn has come, and room for the tables. Assumes nothing.
use Rattle.std.specs.Prelude.{ℕ, ◌+◌, ◌<◌, ◌≤◌, ◌≡◌, Bool, List, [], length, get_or, T}
use Rattle.paper.specs.Image.{Set}
use Rattle.index.specs.Index.{max_rows}

-- row s of part p is there, and the rows of its part before it pass the test
pub record Due (ok : ℕ → ℕ → Bool) (S : Set) (p s : ℕ) : Type 0 where
  pub there : s < length (get_or S p [])
  pub before : (t : ℕ) → t < s → T (ok p t)

-- for any image: room for its index
pub record IndexRooms (offs starts keys : List ℕ) : Type 0 where
  pub offs_room : max_rows + 1 ≤ length offs
  pub starts_room : 65 ≤ length starts
  pub keys_room : max_rows + 1 ≤ length keys

-- and for the other tables, and no row covered yet
pub record Rooms (offs starts keys covered ord : List ℕ) : Type 0 where
  pub index : IndexRooms offs starts keys
  pub covered_room : max_rows + 1 ≤ length covered
  pub blank : (g : ℕ) → get_or covered g 0 ≡ 0
  pub ord_room : max_rows + 1 ≤ length ord
