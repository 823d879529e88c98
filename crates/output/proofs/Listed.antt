-- The entities of a part, in order: where each stands behind those of the part that come before it, they are those that have the part's bit.
-- Assumes nothing.
use Prim.Native.Nat.{ℕ, zero, suc, ◌+◌, ◌≤◌, ◌<◌}
use native.Mathlib.Numerals.{add-one}
use native.Mathlib.Omega.{arith}
use mathlib.Core.Path.{◌≡◌, refl, sym, ap, ap₂, ◌∙◌}
use mathlib.Core.Bool.{Bool, true, false, cond}
use mathlib.Core.List.{List, [], ◌∷◌, ◌++◌, append-nil}
use lib.ListN.{length, get_or, take, drop, length-drop}
use lib.Seq.{take-suc, get_or-drop}
use lib.Dec.{T}
use Rattle.laws.specs.Lists.{keep, from, up_to}
use Rattle.laws.proofs.Tests.{true_T}
use Rattle.laws.proofs.Totals.{up_to_snoc}
use Rattle.part_set.specs.Masks.{has}
use Rattle.slots.specs.Slots.{slot_of}
use Rattle.slots.proofs.SlotLaws.{slot_none, slot_suc}

keep_append : (t : ℕ → Bool) (xs ys : List ℕ) → keep t (xs ++ ys) ≡ keep t xs ++ keep t ys
unfolding keep
keep_append t [] ys = refl
keep_append t (x ∷ xs) ys = go (t x) (keep_append t xs ys)
  where
    go : (b : Bool) → keep t (xs ++ ys) ≡ keep t xs ++ keep t ys → cond b (x ∷ keep t (xs ++ ys)) (keep t (xs ++ ys)) ≡ cond b (x ∷ keep t xs) (keep t xs) ++ keep t ys
    go true e = ap (λ (l : List ℕ). x ∷ l) e
    go false e = e

keep_snoc : (t : ℕ → Bool) (n : ℕ) → keep t (up_to (suc n)) ≡ keep t (up_to n) ++ cond (t n) (n ∷ []) []
unfolding keep
keep_snoc t n = ap (keep t) (up_to_snoc n) ∙ keep_append t (up_to n) (n ∷ [])

module _ (M : ℕ → ℕ) (q s : ℕ) (list : List ℕ) where
  pub listed : (m : ℕ) → ((i : ℕ) → i < m → T (has (M i) q) → get_or list (s + slot_of M q i) 0 ≡ i) → s + slot_of M q m ≤ length list
      → take (slot_of M q m) (drop s list) ≡ keep (λ i. has (M i) q) (up_to m)
  listed zero at h = ap (λ (k : ℕ). take k (drop s list)) (slot_none M q) ∙ none
    where
      none : [] ≡ keep (λ i. has (M i) q) (up_to 0)
      none = unfold keep up_to from in refl
  listed (suc m) at h =
      let k = slot_of M q m in
      let step : slot_of M q (suc m) ≡ k + cond (has (M m) q) 1 0 = ap (slot_of M q) (sym (add-one m)) ∙ slot_suc M q m in
      go (has (M m) q) (λ e. at m (omega arith) (true_T (has (M m) q) e)) step (listed m (λ i l. at i (omega arith)))
      ∙ sym (keep_snoc (λ i. has (M i) q) m)
    where
      go : (b : Bool) → (b ≡ true → get_or list (s + slot_of M q m) 0 ≡ m) → slot_of M q (suc m) ≡ slot_of M q m + cond b 1 0
          → (s + slot_of M q m ≤ length list → take (slot_of M q m) (drop s list) ≡ keep (λ i. has (M i) q) (up_to m))
          → take (slot_of M q (suc m)) (drop s list) ≡ keep (λ i. has (M i) q) (up_to m) ++ cond b (m ∷ []) []
      go true here step before =
          let k = slot_of M q m in
          let e : slot_of M q (suc m) ≡ suc k = omega arith in
          let l : k < length (drop s list) = omega (arith, length-drop s list) in
          ap (λ (z : ℕ). take z (drop s list)) e ∙ take-suc (drop s list) k 0 l
          ∙ ap₂ {C = List ℕ} (λ (xs : List ℕ) (x : ℕ). xs ++ (x ∷ [])) (before (omega arith)) (get_or-drop s list k 0 ∙ here refl)
      go false here step before =
          let e : slot_of M q (suc m) ≡ slot_of M q m = omega arith in
          ap (λ (z : ℕ). take z (drop s list)) e ∙ before (omega arith) ∙ sym (append-nil (keep (λ i. has (M i) q) (up_to m)))
