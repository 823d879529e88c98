-- A set has no fault under a rule exactly where each row passes, and the rules in turn refuse at the first fault under the first of them.
-- Assumes nothing.
use Prim.Native.Nat.{ℕ, zero, suc, ◌+◌, ◌<◌}
use native.Mathlib.Nat.{not-suc-le-zero}
use native.Mathlib.Omega.{arith}
use mathlib.Core.Path.{◌≡◌, refl, sym, ap, ◌∙◌, subst}
use mathlib.Core.Bool.{Bool}
use mathlib.Core.List.{[], ◌∷◌}
use mathlib.Core.Option.{Option, none, some, some-ne-none}
use lib.ListN.{length, get_or}
use lib.Dec.{T}
use Rattle.laws.specs.Lists.{up_to, first_bad}
use Rattle.paper.specs.declared.Rule.{Rule}
use Rattle.paper.specs.Outcome.{Outcome, Place, at_row, refused, accepted, ◌>>◌, unless}
use Rattle.paper.specs.Image.{Set}
use Rattle.paper.specs.Sound.{judged, rules, number_of, first_fault_of, rows_must, rules_of}
use Rattle.paper.proofs.Outcomes.{not_refused, accepted_inj, then_inv, then_ok, leads_in, turn_ok, turn_inv, turn_stops}
use Rattle.paper.proofs.Ranks.{ranked}
use Rattle.demands.specs.Passed.{Passed, PassedAhead, AllPassed}
use Rattle.laws.proofs.FirstBad.{none_bad, all_none}

-- one part's fault, or that of the parts behind it
abbrev or_else : ℕ → Option ℕ → Option Place → Option Place
or_else p o r = elim o [ none ↦ r | some s ↦ some (at_row p s) ]

or_else_none : (p : ℕ) (o : Option ℕ) (r : Option Place) → or_else p o r ≡ none → (o ≡ none) × (r ≡ none)
or_else_none p none r e = (refl, e)
or_else_none p (some s) r e = absurd (some-ne-none (at_row p s) e)

fault_none : (ok : ℕ → ℕ → Bool) (a : ℕ) (S : Set) → first_fault_of ok a S ≡ none → (p s : ℕ) → s < length (get_or S p []) → T (ok (a + p) s)
unfolding first_fault_of
fault_none ok a [] e p s h = absurd (not-suc-le-zero h)
fault_none ok a (rows ∷ S) e zero s h =
    let w = or_else_none a (first_bad (ok a) (up_to (length rows))) (first_fault_of ok (suc a) S) e in
    let z : a + 0 ≡ a = omega arith in
    subst (λ (i : ℕ). T (ok i s)) (sym z) (none_bad (ok a) (length rows) w.0 s h)
fault_none ok a (rows ∷ S) e (suc p) s h =
    let w = or_else_none a (first_bad (ok a) (up_to (length rows))) (first_fault_of ok (suc a) S) e in
    let z : a + suc p ≡ suc a + p = omega arith in
    subst (λ (i : ℕ). T (ok i s)) (sym z) (fault_none ok (suc a) S w.1 p s h)

none_fault : (ok : ℕ → ℕ → Bool) (a : ℕ) (S : Set) → ((p s : ℕ) → s < length (get_or S p []) → T (ok (a + p) s)) → first_fault_of ok a S ≡ none
unfolding first_fault_of
none_fault ok a [] h = refl
none_fault ok a (rows ∷ S) h =
    let z : a + 0 ≡ a = omega arith in
    ap (λ (o : Option ℕ). or_else a o (first_fault_of ok (suc a) S)) (all_none (ok a) (length rows) (λ s l. subst (λ (i : ℕ). T (ok i s)) z (h 0 s l)))
    ∙ none_fault ok (suc a) S (λ p s l. let e : a + suc p ≡ suc a + p = omega arith in subst (λ (i : ℕ). T (ok i s)) e (h (suc p) s l))

-- no fault is found exactly where each row passes
module _ (ok : ℕ → ℕ → Bool) (S : Set) where
  pub none_passes : first_fault_of ok 0 S ≡ none → (p s : ℕ) → s < length (get_or S p []) → T (ok p s)
  none_passes e p s h = let z : 0 + p ≡ p = omega arith in subst (λ (i : ℕ). T (ok i s)) z (fault_none ok 0 S e p s h)

  pub passes_none : ((p s : ℕ) → s < length (get_or S p []) → T (ok p s)) → first_fault_of ok 0 S ≡ none
  passes_none h = none_fault ok 0 S (λ p s l. let z : p ≡ 0 + p = omega arith in subst (λ (i : ℕ). T (ok i s)) z (h p s l))

-- ---- the rules

module _ (S : Set) where
  rule_inv : (rule : Rule) (u : Unit {0}) → rows_must S rule ≡ accepted u → Passed rule S
  unfolding rows_must unless
  rule_inv rule u e = none_passes (judged rule S) S (go (first_fault_of (judged rule S) 0 S) e)
    where
      go : (o : Option Place) → unless (number_of rule) o ≡ accepted u → o ≡ none
      go none f = refl
      go (some x) f = absurd (not_refused f)

  rule_ok : (rule : Rule) → Passed rule S → rows_must S rule ≡ accepted tt
  unfolding rows_must unless
  rule_ok rule pass = ap (unless (number_of rule)) (passes_none (judged rule S) S pass)

  rule_stops : (rule : Rule) (place : Place) → first_fault_of (judged rule S) 0 S ≡ some place → rows_must S rule ≡ refused (number_of rule) place
  unfolding rows_must unless
  rule_stops rule place e = ap (unless (number_of rule)) e

  -- a set is accepted exactly where every row passes every rule
  pub rules_ok : AllPassed S → rules_of S ≡ accepted S
  unfolding rules_of
  rules_ok pass = then_ok _ _ tt (turn_ok (rows_must S) rules (λ rule h. rule_ok rule (pass rule)))

  pub rules_inv : (R : Set) → rules_of S ≡ accepted R → (S ≡ R) × AllPassed S
  unfolding rules_of
  rules_inv R e =
      let w = then_inv _ _ R e in
      (accepted_inj w.2, λ rule. rule_inv rule tt (turn_inv (rows_must S) rules w.0 w.1 rule (leads_in (ranked rule))))

  -- where the rules of lesser rank pass, a fault under a rule is the refusal
  pub rules_stop : (rule : Rule) (place : Place) → PassedAhead rule S → first_fault_of (judged rule S) 0 S ≡ some place → rules_of S ≡ refused (number_of rule) place
  unfolding rules_of ◌>>◌
  rules_stop rule place below e =
      ap (λ (o : Outcome (Unit {0})). o >> accepted S)
      (turn_stops (rows_must S) (ranked rule) (λ r h. rule_ok r (below r h)) (rule_stops rule place e))
