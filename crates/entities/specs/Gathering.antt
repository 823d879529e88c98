-- What the functions that gather the lowest copies ask and promise. Assumes nothing: these are definitions.
use Rattle.std.specs.Prelude.{◌≡◌, List, [], ◌++◌, ℕ, ◌+◌, ◌≤◌, ◌<◌, length, get_or, take}
use Rattle.paper.specs.Image.{Set}
use Rattle.merge.specs.Runs.{runs_of}
use Rattle.entities.specs.LowestCopies.{low_rows, low_runs}

-- there is room for the rows of part p behind the first k entries
pub record PartRoom (S : Set) (p k : ℕ) (ord : List ℕ) : Type 0 where
  pub few : p < length S
  pub room : k + length (get_or S p []) < length ord

-- the lowest copies of part p, behind the first k entries
pub record PartGathered (S : Set) (starts : List ℕ) (p : ℕ) (ord ord' : List ℕ) (k k' : ℕ) : Type 0 where
  pub front : take k' ord' ≡ take k ord ++ low_rows S starts p
  pub count : k' ≡ k + length (low_rows S starts p)
  pub same : length ord' ≡ length ord

-- those of n parts, one run for each, and where each run begins
pub record Gathered (S : Set) (starts ord st ord' st' : List ℕ) (n t : ℕ) : Type 0 where
  pub runs : runs_of st' ord' n ≡ low_runs S starts n
  pub long : n < length st'
  pub first : get_or st' 0 0 ≡ 0
  pub up : (i : ℕ) → i < n → get_or st' i 0 ≤ get_or st' (i + 1) 0
  pub total : get_or st' n 0 ≡ t
  pub few : t ≤ get_or starts n 0
  pub same_ord : length ord' ≡ length ord
  pub same_st : length st' ≡ length st
