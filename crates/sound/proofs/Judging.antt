-- A rule that is judged by a test of rows: where the test may be asked, and what its first fault, or none, means for the rule. Assumes nothing.
use Prim.Native.Nat.{ℕ, ◌<◌}
use native.Mathlib.Omega.{arith}
use mathlib.Core.Path.{◌≡◌, sym, ap, ◌∙◌, subst}
use mathlib.Core.Bool.{Bool, true}
use mathlib.Core.List.{[]}
use mathlib.Core.Option as math
use lib.ListN.{length, get_or}
use lib.Dec.{T}
use Rattle.std.specs.Prelude.{None, Some}
use Rattle.laws.proofs.Tests.{true_T}
use Rattle.paper.specs.declared.Part.{Part}
use Rattle.paper.specs.declared.Slot.{Slot}
use Rattle.paper.specs.declared.Rule.{Rule}
use Rattle.paper.specs.Outcome.{Place, at_row}
use Rattle.paper.specs.Image.{Set}
use Rattle.paper.specs.Sound.{judged, first_fault_of}
use Rattle.demands.specs.Passed.{Passed, PassedAhead}
use Rattle.demands.proofs.Rows.Faults.{none_passes}
use Rattle.sound.specs.Tests.{Test, tested, rule_for, test_of}
use Rattle.sound.specs.Faults.{Askable, Judges, Tells, FirstFault}
use Rattle.sound.proofs.Told.{tested_rule, rule_tested}

-- a test that judges a rule is asked of no row before its turn
pub turns : {may : Part → Slot → Type 0} {says : Part → Slot → Bool → Type 0} {test : Test} {S : Set} → Judges may says test S → Askable may says S
turns {test} {S} judges = record {
  asked = λ part slot there before. judges.asked part slot (record {
    there = there;
    before = λ t l. true_T (tested test S part.0 t) (sym (judges.told part (record { 0 = t }) true (omega (arith, l, there)) (before (record { 0 = t }) l)));
  });
}

-- what a test says of all rows, where its first fault is none, and of the one that it names
module _ {says : Part → Slot → Bool → Type 0} {S : Set} (ok : ℕ → ℕ → Bool) (tells : Tells says S ok) where
  pub clear_passes : FirstFault says S None → (p s : ℕ) → s < length (get_or S p []) → T (ok p s)
  clear_passes first = none_passes ok S (sym (first.place ok tells))

  pub fault_is : {part : Part} {slot : Slot} → FirstFault says S (Some (part, slot)) → first_fault_of ok 0 S ≡ math.some (at_row part.0 slot.0)
  fault_is first = sym (first.place ok tells)

-- the test for a rule is the rule's: what stands ahead of it, what all rows pass, and the first that does not
module _ (rule : Rule) (S : Set) where
  pub rule_ahead : PassedAhead (rule_for (test_of rule)) S → PassedAhead rule S
  rule_ahead ahead = subst (λ (r : Rule). PassedAhead r S) (rule_tested rule) ahead

  pub rule_passes : ((p s : ℕ) → s < length (get_or S p []) → T (tested (test_of rule) S p s)) → Passed rule S
  rule_passes pass = subst (λ (ok : ℕ → ℕ → Bool). (p s : ℕ) → s < length (get_or S p []) → T (ok p s)) (tested_rule rule S) pass

  pub rule_fault : {o : math.Option Place} → first_fault_of (tested (test_of rule) S) 0 S ≡ o → first_fault_of (judged rule S) 0 S ≡ o
  rule_fault f = ap (λ (ok : ℕ → ℕ → Bool). first_fault_of ok 0 S) (sym (tested_rule rule S)) ∙ f
