-- The rows of a set that are the lowest copy of their entity: part by part, and merged by their names. Row s of part p is row starts p + s of
-- the image. Assumes nothing: these are definitions.
use Rattle.std.specs.Prelude.{◌≡◌, Bool, List, [], map, ℕ, ◌+◌, ◌≤◌, ◌<◌, length, get_or, take, T, eqb, Result, Ok, Err, is_ok}
use Rattle.laws.specs.Lists.{keep, up_to, ascending}
use Rattle.part_set.specs.Masks.{lowest_of}
use Rattle.paper.specs.Image.{Set, row_at}
use Rattle.merge.specs.Runs.{key_in}
use Rattle.merge.specs.Merge.{merge_all}
use Rattle.entities.specs.declared.Repeated.{Repeated}

-- row s of part p stands in the lowest part of its residence set
unfoldable pub is_low : Set → ℕ → ℕ → Bool
is_low S p s = eqb (lowest_of (row_at S p s).mask) p

-- the rows of part p that do, ascending
unfoldable pub low_rows : Set → List ℕ → ℕ → List ℕ
low_rows S starts p = map (λ s. get_or starts p 0 + s) (keep (is_low S p) (up_to (length (get_or S p []))))

-- those of n parts, a list for each
unfoldable pub low_runs : Set → List ℕ → ℕ → List (List ℕ)
low_runs S starts n = map (low_rows S starts) (up_to n)

-- merged by their names
unfoldable pub by_name : Set → List ℕ → List ℕ → ℕ → List ℕ
by_name S starts keys n = merge_all (key_in keys) (low_runs S starts n)

-- g is such a row
pub record LowRow (S : Set) (starts : List ℕ) (n g : ℕ) : Type 0 where
  pub part : ℕ
  pub slot : ℕ
  pub within : part < n
  pub there : slot < length (get_or S part [])
  pub low : T (is_low S part slot)
  pub is : g ≡ get_or starts part 0 + slot

-- how many rows are listed, whether or not each name is there once
abbrev pub count_of : Result ℕ Repeated → ℕ
count_of (Ok count) = count
count_of (Err e) = e.count

-- the front of ord' is that list, and the answer says whether each name is there once
pub record Entities (S : Set) (starts keys ord tmp ord' tmp' : List ℕ) (n : ℕ) (r : Result ℕ Repeated) : Type 0 where
  pub rows : take (count_of r) ord' ≡ by_name S starts keys n
  pub distinct : is_ok r ≡ ascending (map (key_in keys) (take (count_of r) ord'))
  pub few : count_of r ≤ get_or starts n 0
  pub within : count_of r ≤ length ord'
  pub same_ord : length ord' ≡ length ord
  pub same_tmp : length tmp' ≡ length tmp
