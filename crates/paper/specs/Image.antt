-- The set image (document 01, "The set image, edition 1"): the layout of a row, the walk over an image's bytes, and the bytes of a set.
-- Every reader is total: a byte past the end counts as 0, and the walk says where the bytes do not suffice. Assumes nothing.
use Rattle.std.specs.Prelude.{ℕ, zero, suc, ◌+◌, ◌-◌, ◌*◌, List, [], ◌∷◌, ◌++◌, map, length, get_or, take, drop, leb}
use Rattle.std.proofs.Math.Option.{Option, none, some}
use Rattle.field.specs.Bytes
use Rattle.part_set.specs.Masks
use Rattle.laws.specs.Lists.{flat, need}
use Rattle.field.specs.Bytes.{u8_at, u32_at, u64_at, words, bytes_of}
use Rattle.part_set.specs.Masks.{count}

-- ---- the layout

-- A row as the image has it: nothing is judged yet. `pad` is the byte at 7, `body` the 24 bytes at 24, and `slots` those of the remote
-- copies, by ascending part, own part left out.
pub record Row : Type 0 where
  pub number : ℕ
  pub dim : ℕ
  pub owner : ℕ
  pub kind : ℕ
  pub pad : ℕ
  pub mask : ℕ
  pub value : ℕ
  pub body : List ℕ
  pub slots : List ℕ

abbrev pub Set : Type 0
Set = List (List Row)

-- what is read where no row is
abbrev pub no_row : Row
no_row = record { number = 0; dim = 0; owner = 0; kind = 0; pad = 0; mask = 0; value = 0; body = []; slots = [] }

-- how many remote slots follow a row whose residence set is m
unfoldable pub remotes : ℕ → ℕ
remotes m = count m - 1

-- 44 bytes and 4 for each bit set, whichever bits they are; a set of 0 takes 48
unfoldable pub row_length_of : ℕ → ℕ
row_length_of m = 48 + 4 * remotes m

-- the row at the front of b
unfoldable pub row_in : List ℕ → Row
row_in b =
    record {
      number = u32_at b 0;
      dim = u8_at b 4;
      owner = u8_at b 5;
      kind = u8_at b 6;
      pad = u8_at b 7;
      mask = u64_at b 8;
      value = u64_at b 16;
      body = take 24 (drop 24 b);
      slots = words (remotes (u64_at b 8)) (drop 48 b);
    }

-- ---- the walk

-- the rows after r, and what is left, with r before them
unfoldable pub cons_row : Row → Option (List Row × List ℕ) → Option (List Row × List ℕ)
cons_row r none = none
cons_row r (some t) = some (r ∷ t.0, t.1)

-- k rows from the front, and what is left; none where the bytes run out. The `let` waits: antt walks on only where the row is there.
unfoldable pub walk_rows : ℕ → List ℕ → Option (List Row × List ℕ)
walk_rows zero b = some ([], b)
walk_rows (suc k) b =
    let n = row_length_of (u64_at b 8) in
    let t = walk_rows k (drop n b) in
    need (leb n (length b)) (cons_row (row_in b) t)

unfoldable pub cons_part : List Row → Option Set → Option Set
cons_part rows none = none
cons_part rows (some ps) = some (rows ∷ ps)

-- the rows of one part, and more parts after them, from what is left
unfoldable pub walked : Option (List Row × List ℕ) → (List ℕ → Option Set) → Option Set
walked none more = none
walked (some t) more = cons_part t.0 (more t.1)

-- n parts, each a count and its rows, which fill b exactly
unfoldable pub walk_parts : ℕ → List ℕ → Option Set
walk_parts zero [] = some []
walk_parts zero (x ∷ b) = none
walk_parts (suc n) b = need (leb 4 (length b)) (walked (walk_rows (u32_at b 0) (drop 4 b)) (walk_parts n))

-- ---- the bytes of a set

unfoldable pub row_bytes : Row → List ℕ
row_bytes r =
    bytes_of 4 r.number ++ (r.dim ∷ r.owner ∷ r.kind ∷ r.pad ∷ []) ++ bytes_of 8 r.mask ++ bytes_of 8 r.value ++ r.body
    ++ flat (map (bytes_of 4) r.slots)

unfoldable pub bytes_of_part : List Row → List ℕ
bytes_of_part rows = bytes_of 4 (length rows) ++ flat (map row_bytes rows)

-- the mark `DMP`, the version, the part count, two zeros: 8 in all; then the parts
unfoldable pub image_of : Set → List ℕ
image_of S = (68 ∷ 77 ∷ 80 ∷ 1 ∷ 0 ∷ length S ∷ 0 ∷ 0 ∷ []) ++ flat (map bytes_of_part S)

-- ---- places

-- the row at slot s of part p
unfoldable pub row_at : Set → ℕ → ℕ → Row
row_at S p s = get_or (get_or S p []) s no_row

-- the total of rows
unfoldable pub row_total : Set → ℕ
row_total S = length (flat S)

-- opens this module and those below it, for what is to compute
unfoldable pub computes : Unit {0}
unfolding Bytes.computes Masks.computes remotes row_length_of row_in cons_row cons_part walked walk_rows walk_parts row_bytes bytes_of_part image_of row_at row_total
computes = tt
