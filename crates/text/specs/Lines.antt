-- The parts of a line, and what the writers of lines want. Assumes nothing.
use Rattle.std.specs.Prelude.{ℕ, ◌+◌, ◌≤◌, ◌<◌, ◌≡◌, true, List, [], ◌∷◌, ◌++◌, map, length}
use Rattle.laws.specs.Lists.{flat, zip}
use Rattle.part_set.specs.Masks.{has, others}
use Rattle.paper.specs.Image.{Row, row_length_of}
use Rattle.decimal.specs.Decimal.{decimal}
use Rattle.paper.specs.Listing.{line, copy_text, refused_word}
use Rattle.index.specs.Index.{row_from}

-- each field behind a space
unfoldable pub spaced : List (List ℕ) → List ℕ
spaced fields = flat (map (λ f. 32 ∷ f) fields)

-- a number, and more behind it
unfoldable pub numbers_text : ℕ → List ℕ → List ℕ
numbers_text n ns = decimal n ++ spaced (map decimal ns)

-- the remote copies of a row of part p
unfoldable pub copies_text : Row → ℕ → List ℕ
copies_text r p = spaced (map copy_text (zip (others r.mask p) r.slots))

-- `refused`, number, place
unfoldable pub refusal_line : ℕ → ℕ → ℕ → List ℕ
refusal_line k major minor = line (refused_word ∷ map decimal (k ∷ major ∷ minor ∷ []))

-- the row at o is there with its remote slots, and its residence set has the part p that holds it
pub record RowThere (b : List ℕ) (o p : ℕ) : Type 0 where
  pub room : o + row_length_of (row_from b o).mask ≤ length b
  pub part : p < 64
  pub own : has (row_from b o).mask p ≡ true
