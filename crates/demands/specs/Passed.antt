-- Rules that every row of a set, or every entry of a list, keeps. Rules are ordered by their ranks. Assumes nothing.
use Rattle.std.specs.Prelude.{ℕ, ◌≤◌, ◌<◌, List, [], length, get_or, T}
use Rattle.paper.specs.declared.Rule.{Rule}
use Rattle.paper.specs.declared.EntryRule.{EntryRule}
use Rattle.paper.specs.Image.{Set}
use Rattle.paper.specs.Sound.{judged, rank_of}
use Rattle.paper.specs.Move.{all_entries, entry_judged, entry_rank}

-- every row of the set passes
abbrev pub Passed : Rule → Set → Type 0
Passed rule S = (p s : ℕ) → s < length (get_or S p []) → T (judged rule S p s)

-- the rows of part p before slot s pass
abbrev pub PassedBefore : Rule → Set → ℕ → ℕ → Type 0
PassedBefore rule S p s = (t : ℕ) → t < s → T (judged rule S p t)

-- every row passes the rules that are judged before one; and that one too; and all
abbrev pub PassedAhead : Rule → Set → Type 0
PassedAhead next S = (rule : Rule) → rank_of rule < rank_of next → Passed rule S

abbrev pub PassedThrough : Rule → Set → Type 0
PassedThrough last S = (rule : Rule) → rank_of rule ≤ rank_of last → Passed rule S

abbrev pub AllPassed : Set → Type 0
AllPassed S = (rule : Rule) → Passed rule S

-- every entry of the list passes
abbrev pub EntriesPassed : EntryRule → Set → List ℕ → Type 0
EntriesPassed rule S l = (i : ℕ) → i < all_entries l → T (entry_judged rule S l i)

-- every entry passes the rules that are judged before one; and all
abbrev pub EntriesPassedAhead : EntryRule → Set → List ℕ → Type 0
EntriesPassedAhead next S l = (rule : EntryRule) → entry_rank rule < entry_rank next → EntriesPassed rule S l

abbrev pub ListPassed : Set → List ℕ → Type 0
ListPassed S l = (rule : EntryRule) → EntriesPassed rule S l
