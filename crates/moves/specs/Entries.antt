-- The entries of a list under one rule: the first that breaks it, and what that comes to. Assumes nothing.
use Rattle.std.specs.Prelude.{ℕ, ◌+◌, ◌*◌, ◌≤◌, ◌<◌, ◌≡◌, Bool, true, false, List, length, Option, None, Some, Result, Ok, Err, MatchOption}
use Rattle.std.proofs.Math.Option as math
use Rattle.paper.specs.declared.EntryRule.{EntryRule}
use Rattle.paper.specs.declared.EntryRule.TheVariants.{Known}
use Rattle.paper.specs.declared.Refusal.{Refusal}
use Rattle.paper.specs.Outcome.{at_entry, refusal}
use Rattle.paper.specs.Image.{Set}
use Rattle.paper.specs.Move.{entry_name, all_entries, number_of_entry, entry_rank}
use Rattle.demands.specs.Passed.{EntriesPassedAhead}
use Rattle.moves.specs.Catalog.{Lower}

-- the refusal by the rule, where an entry breaks it
abbrev pub entries_stage : EntryRule → Option ℕ → Result (Unit {0}) Refusal
entries_stage rule None = Ok tt
entries_stage rule (Some i) = Err (refusal (number_of_entry rule) (at_entry i))

-- the first entry that breaks a rule, as the paper's option
abbrev pub bad_entry : Option ℕ → math.Option ℕ
bad_entry None = math.none
bad_entry (Some i) = math.some i

-- a rule that is judged entry by entry: it stands before Known, and every entry passes the rules before it
pub record EntryReady (rule : EntryRule) (S : Set) (l : List ℕ) (n : ℕ) : Type 0 where
  pub early : entry_rank rule < entry_rank Known
  pub parts : length S ≡ n
  pub passed : EntriesPassedAhead rule S l

-- every entry is whole, and their names ascend
pub record Ascending (l : List ℕ) : Type 0 where
  pub whole : (i : ℕ) → i < all_entries l → 8 * i + 8 ≤ length l
  pub up : (i : ℕ) → i + 1 < all_entries l → entry_name l i < entry_name l (i + 1)

-- every entry of n has P, or r is the first that has not
abbrev pub FirstBroken : (ℕ → Type 0) → ℕ → Option ℕ → Type 0
FirstBroken P n r = MatchOption r ((i : ℕ) → i < n → P i) (λ i. (i < n) × (P i → ⊥) × ((k : ℕ) → k < i → P k))

-- a test that is given an entry and the first place whose name is not below the entry's: what it says of entry i
abbrev pub Says : List ℕ → List ℕ → List ℕ → ℕ → (ℕ → ℕ → Bool → Type 0) → ℕ → Bool → Type 0
Says l keys ord count test i b = (j : ℕ) × Lower keys ord count (entry_name l i) j × test i j b

-- every entry passes the test, or r is the first that does not
pub record FirstSwept (l keys ord : List ℕ) (count : ℕ) (test : ℕ → ℕ → Bool → Type 0) (r : Option ℕ) : Type 0 where
  pub found : MatchOption r ((i : ℕ) → i < all_entries l → Says l keys ord count test i true)
      (λ i. (i < all_entries l) × Says l keys ord count test i false × ((k : ℕ) → k < i → Says l keys ord count test k true))
