-- Loops that ask a test of each number below n, or of each part of a set, and stop at the first that fails. Assumes nothing.
use Prim.Native.Nat.{ℕ, suc, ◌+◌, ◌≤◌, ◌<◌}
use native.Mathlib.Numerals.{add-one}
use native.Mathlib.Omega.{arith}
use mathlib.Core.Path.{◌≡◌, refl, sym, ap, ap₂, ◌∙◌, subst}
use mathlib.Core.Bool.{Bool, true, false, ◌&&◌}
use mathlib.Core.Logic.{inl, inr}
use mathlib.Core.List.{List, [], ◌∷◌}
use lib.ListN.{get_or, drop, drop_of_length-le}
use lib.Seq.{drop-cons}
use Rattle.laws.specs.Lists.{In, every, up_to}
use Rattle.laws.proofs.Ranges.{length_up_to, get_or_up_to}
use Rattle.part_set.specs.Masks.{parts_in, Turn}
use Rattle.part_set.proofs.Walk.{parts_none}

module _ (f : ℕ → Bool) where
  every_cons : (x : ℕ) (xs : List ℕ) → every f (x ∷ xs) ≡ (f x && every f xs)
  unfolding every
  every_cons x xs = refl

  every_none : every f [] ≡ true
  unfolding every
  every_none = refl

  -- ---- each number below n

  -- the test from i on gives the test from the start
  abbrev pub Left : ℕ → ℕ → Type 0
  Left n i = every f (drop i (up_to n)) ≡ every f (up_to n)

  turn : (n i : ℕ) → i < n → every f (drop i (up_to n)) ≡ (f i && every f (drop (i + 1) (up_to n)))
  turn n i h =
      ap (every f) (drop-cons (up_to n) i 0 (omega (arith, length_up_to n)))
      ∙ every_cons (get_or (up_to n) i 0) (drop (suc i) (up_to n))
      ∙ ap₂ (λ (x k : ℕ). f x && every f (drop k (up_to n))) (get_or_up_to n i 0 h) (sym (add-one i))

  pub left_more : (n i : ℕ) → Left n i → i < n → f i ≡ true → Left n (i + 1)
  left_more n i v h e = sym (turn n i h ∙ ap (λ (t : Bool). t && every f (drop (i + 1) (up_to n))) e) ∙ v

  pub left_fails : (n i : ℕ) → Left n i → i < n → f i ≡ false → false ≡ every f (up_to n)
  left_fails n i v h e = sym (turn n i h ∙ ap (λ (t : Bool). t && every f (drop (i + 1) (up_to n))) e) ∙ v

  pub left_done : (n i : ℕ) → Left n i → n ≤ i → true ≡ every f (up_to n)
  left_done n i v h = sym (ap (every f) (drop_of_length-le (up_to n) {i = i} (omega (arith, length_up_to n))) ∙ every_none) ∙ v

  -- ---- each part of the set w₀

  pub record Walks (w₀ w : ℕ) : Type 0 where
    pub same : every f (parts_in w) ≡ every f (parts_in w₀)
    pub inside : (q : ℕ) → In q (parts_in w) → In q (parts_in w₀)

  -- a turn, at the part q
  module _ {w₀ w q r : ℕ} (v : Walks w₀ w) (turn : Turn w q r) where
    first : every f (parts_in w) ≡ (f q && every f (parts_in r))
    first = ap (every f) turn.parts ∙ every_cons q (parts_in r)

    pub walks_in : In q (parts_in w₀)
    walks_in = v.inside q (subst (λ (l : List ℕ). In q l) (sym turn.parts) (inl refl))

    pub walks_more : f q ≡ true → Walks w₀ r
    walks_more e = record {
      same = sym (first ∙ ap (λ (t : Bool). t && every f (parts_in r)) e) ∙ v.same;
      inside = λ x i. v.inside x (subst (λ (l : List ℕ). In x l) (sym turn.parts) (inr i));
    }

    pub walks_fails : f q ≡ false → false ≡ every f (parts_in w₀)
    walks_fails e = sym (first ∙ ap (λ (t : Bool). t && every f (parts_in r)) e) ∙ v.same

  pub walks_done : {w₀ w : ℕ} → Walks w₀ w → w ≡ 0 → true ≡ every f (parts_in w₀)
  walks_done v e = sym (ap (λ (x : ℕ). every f (parts_in x)) e ∙ ap (every f) parts_none ∙ every_none) ∙ v.same
