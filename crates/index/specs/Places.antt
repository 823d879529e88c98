-- Where the rows and the parts of an image lie, by their offsets. A byte past the end counts as 0, so each function is total, and n parts
-- fill the image exactly where they end at its length. Assumes nothing.
use Rattle.std.specs.Prelude.{ℕ, zero, suc, ◌+◌, List, [], ◌∷◌, length}
use Rattle.field.specs.Bytes.{u32_at, u64_at}
use Rattle.paper.specs.Image.{row_length_of}
use Rattle.paper.specs.Sound.{name_of_row}
use Rattle.index.specs.Index.{row_from}

-- how long the row at o is
abbrev pub length_at : List ℕ → ℕ → ℕ
length_at b o = row_length_of (u64_at b (o + 8))

-- the name of the row at o
unfoldable pub name_from : List ℕ → ℕ → ℕ
name_from b o = name_of_row (row_from b o)

-- where k rows from o on end
unfoldable pub rows_end : ℕ → List ℕ → ℕ → ℕ
rows_end zero b o = o
rows_end (suc k) b o = rows_end k b (o + length_at b o)

-- where each of them begins
unfoldable pub row_offs : ℕ → List ℕ → ℕ → List ℕ
row_offs zero b o = []
row_offs (suc k) b o = o ∷ row_offs k b (o + length_at b o)

-- where the part at o ends
abbrev pub part_end : List ℕ → ℕ → ℕ
part_end b o = rows_end (u32_at b o) b (o + 4)

-- where n parts from o on end
unfoldable pub parts_end : ℕ → List ℕ → ℕ → ℕ
parts_end zero b o = o
parts_end (suc n) b o = parts_end n b (part_end b o)

-- where each of their rows begins, part by part
unfoldable pub part_offs : ℕ → List ℕ → ℕ → List (List ℕ)
part_offs zero b o = []
part_offs (suc n) b o = row_offs (u32_at b o) b (o + 4) ∷ part_offs n b (part_end b o)

-- how many stand before each list, from r on, and last how many there are in all
unfoldable pub starts_of : {A : Type 0} → ℕ → List (List A) → List ℕ
starts_of r [] = r ∷ []
starts_of r (xs ∷ xss) = r ∷ starts_of (r + length xs) xss
