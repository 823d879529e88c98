-- A list passes its rules exactly where each entry does, and they refuse in turn at the first entry that breaks the first of them.
-- Assumes nothing.
use Prim.Native.Nat.{ℕ}
use mathlib.Core.Path.{◌≡◌, refl, ap}
use mathlib.Core.List.{List}
use mathlib.Core.Option.{Option, none, some}
use lib.ListN.{length}
use lib.Dec.{leb}
use Rattle.laws.specs.Lists.{up_to, first_bad}
use Rattle.laws.proofs.FirstBad.{none_bad, all_none}
use Rattle.paper.specs.declared.EntryRule.{EntryRule}
use Rattle.paper.specs.Outcome.{Outcome, at_entry, refused, accepted, ◌>>◌, must, unless}
use Rattle.paper.specs.Image.{Set, row_total}
use Rattle.paper.specs.Sound.{max_image}
use Rattle.paper.specs.Move.{all_entries, entry_judged, entry_rules, number_of_entry, entries_must, Migrated, migrated, size_set}
use Rattle.paper.proofs.Outcomes.{not_refused, then_inv, then_ok, leads_in, turn_ok, turn_inv, turn_stops}
use Rattle.paper.proofs.Ranks.{entry_ranked}
use Rattle.demands.specs.Passed.{EntriesPassed, EntriesPassedAhead, ListPassed}

-- what an entry that was looked for comes to
abbrev found : EntryRule → Option ℕ → Outcome (Unit {0})
found rule o = unless (number_of_entry rule) (elim o [ none ↦ none | some i ↦ some (at_entry i) ])

module _ (S : Set) (l : List ℕ) where
  -- the first entry that breaks the rule
  abbrev pub first_entry : EntryRule → Option ℕ
  first_entry rule = first_bad (entry_judged rule S l) (up_to (all_entries l))

  pub clear_passes : (rule : EntryRule) → first_entry rule ≡ none → EntriesPassed rule S l
  clear_passes rule e = none_bad (entry_judged rule S l) (all_entries l) e

  entries_inv : (rule : EntryRule) (u : Unit {0}) → entries_must S l rule ≡ accepted u → EntriesPassed rule S l
  unfolding entries_must unless
  entries_inv rule u e = clear_passes rule (go (first_entry rule) e)
    where
      go : (o : Option ℕ) → found rule o ≡ accepted u → o ≡ none
      go none f = refl
      go (some i) f = absurd (not_refused f)

  entries_ok : (rule : EntryRule) → EntriesPassed rule S l → entries_must S l rule ≡ accepted tt
  unfolding entries_must unless
  entries_ok rule pass = ap (found rule) (all_none (entry_judged rule S l) (all_entries l) pass)

  entries_stop : (rule : EntryRule) (i : ℕ) → first_entry rule ≡ some i → entries_must S l rule ≡ refused (number_of_entry rule) (at_entry i)
  unfolding entries_must unless
  entries_stop rule i e = ap (found rule) e

  -- ---- all of them, before what is left of sizing

  abbrev rest : ℕ → Outcome Migrated
  rest work = must 17 (leb (row_total S) work) >> (must 18 (leb (length (migrated S l).image) max_image) >> accepted (migrated S l))

  pub list_passes : (work : ℕ) → ListPassed S l → size_set S l work ≡ rest work
  unfolding size_set
  list_passes work pass = then_ok _ _ tt (turn_ok (entries_must S l) entry_rules (λ rule h. entries_ok rule (pass rule)))

  pub list_inv : (work : ℕ) (m : Migrated) → size_set S l work ≡ accepted m → ListPassed S l × (rest work ≡ accepted m)
  unfolding size_set
  list_inv work m e =
      let w = then_inv _ _ m e in
      (λ rule. entries_inv rule tt (turn_inv (entries_must S l) entry_rules w.0 w.1 rule (leads_in (entry_ranked rule))), w.2)

  -- where the rules of lesser rank pass, the first entry that breaks a rule is the refusal
  pub list_stops : (rule : EntryRule) (i work : ℕ) → EntriesPassedAhead rule S l → first_entry rule ≡ some i
      → size_set S l work ≡ refused (number_of_entry rule) (at_entry i)
  unfolding size_set ◌>>◌
  list_stops rule i work below e =
      ap (λ (o : Outcome (Unit {0})). o >> rest work)
      (turn_stops (entries_must S l) (entry_ranked rule) (λ r h. entries_ok r (below r h)) (entries_stop rule i e))
