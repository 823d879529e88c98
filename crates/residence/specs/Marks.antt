-- What the functions that fill and read the table of covered rows want and leave. Assumes nothing.
use Rattle.std.specs.Prelude.{ℕ, ◌+◌, ◌*◌, ◌≤◌, ◌<◌, ◌≡◌, Bool, true, ◌&&◌, cond, List, [], ◌∷◌, length, get_or, eqb}
use Rattle.laws.specs.Lists.{In}
use Rattle.field.specs.Bytes.{u32_at}
use Rattle.paper.specs.Image.{Row}
use Rattle.paper.specs.Mesh.{slots_of}
use Rattle.index.specs.Index.{set_in, max_rows, row_from, Indexed}
use Rattle.paper.specs.declared.Rule.TheVariants.{Fields, Boundary}
use Rattle.demands.specs.Passed.{Passed}
use Rattle.residence.specs.Tables.{Covers}

-- From `first` on, the entries that the test hits are 1; all others are as they were.
pub record Marked (first : ℕ) (hit : ℕ → Bool) (covered covered' : List ℕ) : Type 0 where
  pub same : length covered' ≡ length covered
  pub behind : (s : ℕ) → get_or covered' (first + s) 0 ≡ cond (hit s) 1 (get_or covered (first + s) 0)
  pub before : (g : ℕ) → g < first → get_or covered' g 0 ≡ get_or covered g 0

-- the slots that a row names
abbrev pub slots_named : Row → List ℕ
slots_named r = slots_of r.dim r.body

-- the row at `at` is there, and the entries of the slots that it names are
pub record RowStands (b : List ℕ) (at first : ℕ) (covered : List ℕ) : Type 0 where
  pub there : at + 48 ≤ length b
  pub low : (row_from b at).dim ≤ 3
  pub inside : (f : ℕ) → In f (slots_named (row_from b at)) → first + f < length covered

-- the rows keep to their layout and name rows of their parts
pub record Standing (b offs starts : List ℕ) (n : ℕ) (covered : List ℕ) : Type 0 where
  pub index : Indexed b offs starts n
  pub fields : Passed Fields (set_in b)
  pub boundary : Passed Boundary (set_in b)
  pub room : max_rows + 1 ≤ length covered

-- and no entry is set yet
pub record Blank (b offs starts : List ℕ) (n : ℕ) (covered : List ℕ) : Type 0 where
  pub stands : Standing b offs starts n covered
  pub zero : (g : ℕ) → get_or covered g 0 ≡ 0

-- the table is filled
pub record CoverFilled (b starts covered covered' : List ℕ) : Type 0 where
  pub same : length covered' ≡ length covered
  pub covers : Covers b starts covered'

-- ---- the copies of a row, in the parts qs, whose slots stand from o on

-- the entry of the row at slot t of part q is 1
abbrev pub is_covered : List ℕ → List ℕ → ℕ → ℕ → Bool
is_covered starts covered q t = eqb (get_or covered (get_or starts q 0 + t) 0) 1

unfoldable pub copies_all_covered : List ℕ → List ℕ → List ℕ → ℕ → List ℕ → Bool
copies_all_covered b starts covered o [] = true
copies_all_covered b starts covered o (q ∷ qs) = is_covered starts covered q (u32_at b o) && copies_all_covered b starts covered (o + 4) qs

-- each of them is there
pub record CopiesThere (b starts covered : List ℕ) (o : ℕ) (qs : List ℕ) : Type 0 where
  pub room : 64 ≤ length starts
  pub slots : o + 4 * length qs ≤ length b
  pub rows : (i : ℕ) → i < length qs → get_or starts (get_or qs i 0) 0 + u32_at b (o + 4 * i) < length covered
