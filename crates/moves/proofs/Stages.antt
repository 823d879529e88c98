-- The list from rule to rule: where the rules before a rule pass, the first entry that breaks it is the paper's refusal. Assumes nothing.
use Prim.Native.Nat.{ℕ, suc, ◌<◌}
use native.Mathlib.Nat.{le_of_suc-le-suc, eq-or-lt_of_le}
use native.Mathlib.Omega.{arith}
use mathlib.Core.Path.{◌≡◌, refl, sym, ◌∙◌, subst}
use mathlib.Core.Logic.{⊎_elim}
use mathlib.Core.List.{List}
use lib.ListN.{length}
use lib.Dec.{T}
use Rattle.std.proofs.Common.{Option, None, Some, Result, Ok, Err}
use Rattle.paper.specs.declared.EntryRule.{EntryRule}
use Rattle.paper.specs.declared.EntryRule.TheVariants.{Whole, Destination, Known, Object}
use Rattle.paper.specs.declared.Refusal.{Refusal}
use Rattle.paper.specs.Outcome.{at_entry, refusal}
use Rattle.paper.specs.Image.{Set}
use Rattle.paper.specs.Move.{all_entries, entry_fitting, entry_part, number_of_entry, entry_judged, entry_rank}
use Rattle.paper.proofs.Outcomes.{as_refused}
use Rattle.paper.proofs.Ranks.{one_entry_rank}
use Rattle.demands.specs.Passed.{EntriesPassed, EntriesPassedAhead, ListPassed}
use Rattle.demands.proofs.Rows.Entries.{first_entry, list_stops}
use Rattle.moves.specs.Entries.{bad_entry, EntryReady, Ascending, FirstBroken, entries_stage}
use Rattle.moves.specs.Stages.{ListJudged}
use Rattle.moves.proofs.Loops.{first_is}
use Rattle.moves.proofs.Judging.{Found, ascending, by_whole, by_destination}
use Rattle.moves.proofs.Ready.{first_ready, second_ready}

module _ (rule : EntryRule) (S : Set) (l : List ℕ) where
  -- what the code finds first is what the paper does
  found_first : (o : Option ℕ) → Found rule S l o → bad_entry o ≡ first_entry S l rule
  found_first o found = first_is (entry_judged rule S l) (all_entries l) o found

  -- the stage goes on where it is none
  none_found : (o : Option ℕ) (u : Unit {0}) → Ok u ≡ entries_stage rule o → o ≡ None
  none_found None u e = refl
  none_found (Some i) u e = cc

  -- no entry breaks the rule
  passes : (o : Option ℕ) → Found rule S l o → (u : Unit {0}) → Ok u ≡ entries_stage rule o → EntriesPassed rule S l
  passes None found u e = found
  passes (Some i) found u e = cc

  -- one does: the list stops
  pub stops : EntriesPassedAhead rule S l → (o : Option ℕ) → Found rule S l o → (r : Refusal) → Err r ≡ entries_stage rule o → ListJudged S l (Err r)
  stops ahead None found r e = cc
  stops ahead (Some i) found r e =
      let is : r ≡ refusal (number_of_entry rule) (at_entry i) = cc in
      λ work. list_stops S l rule i work ahead (sym (found_first (Some i) found)) ∙ sym (as_refused is)

  -- one rule more has passed
  pub goes_on : (next : EntryRule) → entry_rank next ≡ suc (entry_rank rule) → EntriesPassedAhead rule S l → (o : Option ℕ) → Found rule S l o → (u : Unit {0})
      → Ok u ≡ entries_stage rule o → EntriesPassedAhead next S l
  goes_on next step ahead o found u e told h =
      ⊎_elim
      (λ (is : entry_rank told ≡ entry_rank rule). subst (λ (r : EntryRule). EntriesPassed r S l) (sym (one_entry_rank told rule is)) (passes o found u e))
      (λ (m : entry_rank told < entry_rank rule). ahead told m) (eq-or-lt_of_le (le_of_suc-le-suc (omega (arith, step, h))))

-- the first rule stands behind none
none_before : (S : Set) (l : List ℕ) → EntryReady Whole S l (length S)
none_before S l = first_ready refl

pub none_ahead : (S : Set) (l : List ℕ) → EntriesPassedAhead Whole S l
none_ahead S l = (none_before S l).passed

pub all_passed : (S : Set) (l : List ℕ) → EntriesPassedAhead Object S l → EntriesPassed Object S l → ListPassed S l
all_passed S l ahead here Whole = ahead Whole (omega arith)
all_passed S l ahead here Destination = ahead Destination (omega arith)
all_passed S l ahead here Known = ahead Known (omega arith)
all_passed S l ahead here Object = here

-- the last rule says what comes of the list
pub last_stage : (S : Set) (l : List ℕ) → EntriesPassedAhead Object S l → (o : Option ℕ) → Found Object S l o → (r : Result (Unit {0}) Refusal) → r ≡ entries_stage Object o
    → ListJudged S l r
last_stage S l ahead o found (Err r) e = stops Object S l ahead o found r e
last_stage S l ahead o found (Ok u) e = all_passed S l ahead (passes Object S l o found u e)

-- ---- behind the first two rules

module _ (S : Set) (l : List ℕ) (o : Option ℕ) (fits : FirstBroken (λ i. T (entry_fitting l i)) (all_entries l) o) {u : Unit {0}} (e : Ok u ≡ entries_stage Whole o) where
  -- what stands before the second rule, its part count among it
  second_behind : {n : ℕ} → length S ≡ n → EntryReady Destination S l n
  second_behind count = second_ready (first_ready count) o (found_first Whole S l o (by_whole S l o fits)) (none_found Whole S l o u e)

  pub whole_ahead : EntriesPassedAhead Destination S l
  whole_ahead = (second_behind refl).passed

  pub ascend_behind : Ascending l
  ascend_behind = ascending S l (whole_ahead Whole (omega arith))

  pub parts_ahead : (n : ℕ) → length S ≡ n → (o' : Option ℕ) → FirstBroken (λ i. entry_part l i < n) (all_entries l) o' → {u' : Unit {0}}
      → Ok u' ≡ entries_stage Destination o' → EntriesPassedAhead Known S l
  parts_ahead n count o' astray {u'} e' =
      let ready = second_behind count in goes_on Destination S l Known refl ready.passed o' (by_destination S l n ready.parts o' astray) u' e'
