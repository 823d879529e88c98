-- What the walk of an image wants and leaves. Assumes nothing.
use Rattle.std.specs.Prelude.{ℕ, ◌+◌, ◌*◌, ◌≤◌, ◌<◌, ◌≡◌, cond, Option, Some, None, List, map, length, drop, leb}
use Rattle.std.proofs.Math.Option.{none, some}
use Rattle.std.proofs.lemmas.List.Edits.{sets}
use Rattle.field.specs.Bytes.{u8_at}
use Rattle.paper.specs.Image.{walk_parts, row_total}
use Rattle.paper.specs.Sound.{max_image}
use Rattle.index.specs.Index.{set_in, max_rows, Indexed, Named}
use Rattle.index.specs.Head.{head_number}
use Rattle.index.specs.Places.{name_from, rows_end, row_offs}

-- ---- the rows of a part

-- count rows from o on, the first of them row r of the image
pub record RowsAhead (b offs keys : List ℕ) (r count o : ℕ) : Type 0 where
  pub small : length b ≤ max_image
  pub offs_room : max_rows + 1 ≤ length offs
  pub keys_room : max_rows + 1 ≤ length keys
  pub few : count < 4294967296
  pub scaled : 48 * r ≤ o
  pub inside : o ≤ length b

-- an end within an image of len bytes, or past it
abbrev pub end_in : ℕ → ℕ → Option ℕ
end_in len e = cond (leb e len) (Some e) None

-- the tables after these rows, where they end within the image
pub record RowsWalked (b : List ℕ) (r count o : ℕ) (offs keys offs' keys' : List ℕ) (e : Option ℕ) : Type 0 where
  pub answer : e ≡ end_in (length b) (rows_end count b o)
  pub offs_filled : rows_end count b o ≤ length b → offs' ≡ sets offs r (row_offs count b o)
  pub keys_filled : rows_end count b o ≤ length b → keys' ≡ sets keys r (map (name_from b) (row_offs count b o))

-- ---- the image

-- the head passes, and the tables are long enough for any image
pub record Walkable (b offs starts keys : List ℕ) : Type 0 where
  pub head : head_number b ≡ 0
  pub offs_room : max_rows + 1 ≤ length offs
  pub starts_room : 65 ≤ length starts
  pub keys_room : max_rows + 1 ≤ length keys

-- the parts fill the image, and the tables are its index
pub record Whole (b offs starts keys : List ℕ) (total : ℕ) : Type 0 where
  pub walk : walk_parts (u8_at b 5) (drop 8 b) ≡ some (set_in b)
  pub index : Indexed b offs starts (u8_at b 5)
  pub names : Named b starts keys
  pub rows : total ≡ row_total (set_in b)

-- what an answer says
unfoldable pub Answered : List ℕ → List ℕ → List ℕ → List ℕ → Option ℕ → Type 0
Answered b offs starts keys (Some total) = Whole b offs starts keys total
Answered b offs starts keys None = walk_parts (u8_at b 5) (drop 8 b) ≡ none

pub record WalkDone (b offs starts keys offs' starts' keys' : List ℕ) (w : Option ℕ) : Type 0 where
  pub same_offs : length offs' ≡ length offs
  pub same_starts : length starts' ≡ length starts
  pub same_keys : length keys' ≡ length keys
  pub answer : Answered b offs' starts' keys' w
