-- Rows counted by the part that they go to. Assumes nothing: these are definitions.
use Rattle.std.specs.Prelude.{ℕ, ◌+◌, ◌≤◌, ◌<◌, ◌≡◌, Bool, not, cond, ◌&&◌, List, length, get_or, eqb}
use Rattle.laws.specs.Lists.{keep, up_to}
use Rattle.index.specs.Index.{max_rows}

-- row g is an object that goes to part q
unfoldable pub goes : List ℕ → List ℕ → ℕ → ℕ → Bool
goes covered dest q g = eqb (get_or covered g 0) 0 && eqb (get_or dest g 0) q

-- row g, of part p, is an object that goes to another part
unfoldable pub leaves : List ℕ → List ℕ → ℕ → ℕ → Bool
leaves covered dest p g = eqb (get_or covered g 0) 0 && not (eqb p (get_or dest g 0))

-- how many of the n rows from `first` on pass
abbrev pub how_many : (ℕ → Bool) → ℕ → ℕ → ℕ
how_many t first n = length (keep (λ s. t (first + s)) (up_to n))

-- the n rows from `first` on are there, each object goes to a part, and no part has more objects yet than there are rows before
pub record ObjectsCountable (covered dest counts : List ℕ) (first n : ℕ) : Type 0 where
  pub few : first + n ≤ max_rows
  pub room_covered : first + n ≤ length covered
  pub room_dest : first + n ≤ length dest
  pub parts : 64 ≤ length counts
  pub to : (g : ℕ) → first ≤ g → g < first + n → get_or covered g 0 ≡ 0 → get_or dest g 0 < 64
  pub small : (q : ℕ) → q < 64 → get_or counts q 0 ≤ first

-- row g, of part p, is counted, and `left` says whether it leaves
pub record RowCounted (covered dest : List ℕ) (p g : ℕ) (counts counts' : List ℕ) (left : Bool) : Type 0 where
  pub same : length counts' ≡ length counts
  pub sent : (q : ℕ) → q < 64 → get_or counts' q 0 ≡ get_or counts q 0 + cond (goes covered dest q g) 1 0
  pub away : left ≡ leaves covered dest p g

-- the n rows from `first` on, of part p, are counted, and `left` of them leave
pub record RowsCounted (covered dest : List ℕ) (p first n : ℕ) (counts counts' : List ℕ) (left : ℕ) : Type 0 where
  pub same : length counts' ≡ length counts
  pub sent : (q : ℕ) → q < 64 → get_or counts' q 0 ≡ get_or counts q 0 + how_many (goes covered dest q) first n
  pub away : left ≡ how_many (leaves covered dest p) first n
