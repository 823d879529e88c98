-- The search of a name among the names of a part, which ascend. Assumes nothing.
use Rattle.std.specs.Prelude.{ℕ, ◌+◌, ◌≤◌, ◌<◌, ◌≡◌, List, length, get_or, Result, Ok, Err}
use Rattle.paper.specs.declared.Slot.{Slot}

-- the keys from first to last ascend strictly
pub record Sorted (keys : List ℕ) (first last : ℕ) : Type 0 where
  pub order : first ≤ last
  pub room : last ≤ length keys
  pub ascends : (i j : ℕ) → first ≤ i → i < j → j < last → get_or keys i 0 < get_or keys j 0

-- part p is there, and its keys ascend
pub record Searchable (keys starts : List ℕ) (p : ℕ) : Type 0 where
  pub part : p + 1 < length starts
  pub sorted : Sorted keys (get_or starts p 0) (get_or starts (p + 1) 0)

-- slot s of part p has the key x
pub record Hit (keys starts : List ℕ) (p x s : ℕ) : Type 0 where
  pub inside : get_or starts p 0 + s < get_or starts (p + 1) 0
  pub same : get_or keys (get_or starts p 0 + s) 0 ≡ x

-- no slot of part p has it, and at slot s it would keep the order
pub record Miss (keys starts : List ℕ) (p x s : ℕ) : Type 0 where
  pub inside : get_or starts p 0 + s ≤ get_or starts (p + 1) 0
  pub below : (t : ℕ) → t < s → get_or keys (get_or starts p 0 + t) 0 < x
  pub above : (t : ℕ) → s ≤ t → get_or starts p 0 + t < get_or starts (p + 1) 0 → x < get_or keys (get_or starts p 0 + t) 0

-- what an answer says
unfoldable pub Sought : List ℕ → List ℕ → ℕ → ℕ → Result Slot Slot → Type 0
Sought keys starts p x (Ok s) = Hit keys starts p x s.0
Sought keys starts p x (Err s) = Miss keys starts p x s.0
