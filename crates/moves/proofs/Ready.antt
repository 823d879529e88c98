-- What a rule that is judged entry by entry stands behind, from one rule to the next. Assumes nothing.
use Prim.Native.Nat.{ℕ, suc, ◌<◌}
use native.Mathlib.Nat.{le_of_suc-le-suc, eq-or-lt_of_le}
use native.Mathlib.Omega.{arith}
use mathlib.Core.Path.{◌≡◌, refl, sym, ap, ◌∙◌, subst}
use mathlib.Core.Logic.{⊎_elim}
use mathlib.Core.List.{List}
use lib.ListN.{length}
use Rattle.std.specs.Prelude.{Option, None}
use Rattle.paper.specs.declared.EntryRule.{EntryRule}
use Rattle.paper.specs.declared.EntryRule.TheVariants.{Whole, Destination}
use Rattle.paper.specs.Image.{Set}
use Rattle.paper.specs.Move.{entry_rank}
use Rattle.paper.proofs.Ranks.{one_entry_rank}
use Rattle.demands.specs.Passed.{EntriesPassed, EntriesPassedAhead}
use Rattle.demands.proofs.Rows.Entries.{first_entry, clear_passes}
use Rattle.moves.specs.Entries.{bad_entry, EntryReady}

module _ (S : Set) (l : List ℕ) (rule : EntryRule) (ahead : EntriesPassedAhead rule S l) (bad : Option ℕ) (found : bad_entry bad ≡ first_entry S l rule) where
  -- no entry fails: one rule more has passed
  through : bad ≡ None → (told : EntryRule) → entry_rank told < suc (entry_rank rule) → EntriesPassed told S l
  through e told h =
      ⊎_elim
      (λ (is : entry_rank told ≡ entry_rank rule).
      subst (λ (r : EntryRule). EntriesPassed r S l) (sym (one_entry_rank told rule is)) (clear_passes S l rule (sym found ∙ ap bad_entry e)))
      (λ (m : entry_rank told < entry_rank rule). ahead told m) (eq-or-lt_of_le (le_of_suc-le-suc h))

  pub passed_on : (next : EntryRule) → entry_rank next ≡ suc (entry_rank rule) → bad ≡ None → EntriesPassedAhead next S l
  passed_on next step e told h = through e told (omega (arith, step, h))

module _ {S : Set} {l : List ℕ} where
  pub first_ready : {n : ℕ} → length S ≡ n → EntryReady Whole S l n
  first_ready parts = record { early = omega arith; parts = parts; passed = λ rule h. absurd (omega arith) }

  pub second_ready : {n : ℕ} → EntryReady Whole S l n → (bad : Option ℕ) → bad_entry bad ≡ first_entry S l Whole → bad ≡ None → EntryReady Destination S l n
  second_ready r bad found e = record { early = omega arith; parts = r.parts; passed = passed_on S l Whole r.passed bad found Destination refl e }
