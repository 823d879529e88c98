-- Objects counted in the table of covered rows, and the owner by a table of their counts. Assumes nothing.
use Rattle.std.specs.Prelude.{ℕ, zero, suc, ◌+◌, ◌-◌, ◌≤◌, ◌<◌, ◌≡◌, cond, List, [], ◌∷◌, length, get_or, eqb}
use Rattle.paper.specs.Mesh.{poorest}

-- how many of k entries from `first` on are 0
unfoldable pub open_from : List ℕ → ℕ → ℕ → ℕ
open_from covered first zero = 0
open_from covered first (suc k) = open_from covered first k + cond (eqb (get_or covered (first + k) 0) 0) 1 0

-- the rows of n parts have their entries
pub record RowsCountable (starts covered : List ℕ) (n : ℕ) (counts : List ℕ) : Type 0 where
  pub few : n ≤ 64
  pub starts_room : 65 ≤ length starts
  pub counts_room : 64 ≤ length counts
  pub ascend : (p : ℕ) → p < n → get_or starts p 0 ≤ get_or starts (p + 1) 0
  pub inside : (p : ℕ) → p < n → get_or starts (p + 1) 0 ≤ length covered

-- the entries that are 0 are counted, part by part
pub record OpenCounted (starts covered : List ℕ) (n : ℕ) (counts counts' : List ℕ) : Type 0 where
  pub same : length counts' ≡ length counts
  pub entry : (p : ℕ) → p < n → get_or counts' p 0 ≡ open_from covered (get_or starts p 0) (get_or starts (p + 1) 0 - get_or starts p 0)

-- of the parts qs, ascending, the one with the least count, and of equals the first
unfoldable pub poorest_of : List ℕ → List ℕ → ℕ
poorest_of counts [] = 0
poorest_of counts (p ∷ qs) = poorest (λ q. get_or counts q 0) p qs
