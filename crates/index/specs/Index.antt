-- The index of an image: the offset of every row, the name of every row and the first row of every part, as tables. Row s of part p is row
-- starts p + s of the image. Assumes nothing.
use Rattle.std.specs.Prelude.{ℕ, ◌+◌, ◌≤◌, ◌<◌, ◌≡◌, List, [], length, get_or, drop}
use Rattle.std.proofs.Math.Option
use Rattle.field.specs.Bytes.{u8_at}
use Rattle.paper.specs.Image.{Row, Set, row_length_of, row_in, walk_parts, row_at, row_total}
use Rattle.paper.specs.Sound.{name_of_row, max_image}

-- the row whose first byte stands at o
abbrev pub row_from : List ℕ → ℕ → Row
row_from b o = row_in (drop o b)

-- the set that the walk of an image finds, and no part where it finds none
unfoldable pub set_in : List ℕ → Set
set_in b = Option.get_or (walk_parts (u8_at b 5) (drop 8 b)) []

-- how many rows an image can have: 48 bytes is the least that one takes
abbrev pub max_rows : ℕ
max_rows = 21845

-- the offset of each row, and the first row of each of n parts with the total behind them
pub record Indexed (b offs starts : List ℕ) (n : ℕ) : Type 0 where
  pub small : length b ≤ max_image
  pub few : n ≤ 64
  pub count : length (set_in b) ≡ n
  pub offs_room : max_rows + 1 ≤ length offs
  pub starts_room : 65 ≤ length starts
  pub first : get_or starts 0 0 ≡ 0
  pub next : (p : ℕ) → p < n → get_or starts (p + 1) 0 ≡ get_or starts p 0 + length (get_or (set_in b) p [])
  pub total : get_or starts n 0 ≡ row_total (set_in b)
  pub total_few : get_or starts n 0 ≤ max_rows
  pub row : (p s : ℕ) → s < length (get_or (set_in b) p []) → row_at (set_in b) p s ≡ row_from b (get_or offs (get_or starts p 0 + s) 0)
  pub there : (p s : ℕ) → s < length (get_or (set_in b) p []) → get_or offs (get_or starts p 0 + s) 0 + row_length_of (row_at (set_in b) p s).mask ≤ length b

-- the name of each row
pub record Named (b starts keys : List ℕ) : Type 0 where
  pub room : max_rows + 1 ≤ length keys
  pub key : (p s : ℕ) → s < length (get_or (set_in b) p []) → get_or keys (get_or starts p 0 + s) 0 ≡ name_of_row (row_at (set_in b) p s)
