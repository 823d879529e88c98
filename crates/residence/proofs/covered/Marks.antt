-- Entries marked one after the other, and a test of the first elements of a list. Assumes nothing.
use Prim.Native.Nat.{ℕ, zero, suc, ◌+◌, ◌<◌}
use native.Mathlib.Nat.{not-suc-le-zero, le_of_suc-le-suc}
use native.Mathlib.Omega.{arith}
use mathlib.Core.Path.{◌≡◌, refl, sym, ap, ◌∙◌}
use mathlib.Core.Bool.{Bool, true, false, not, ◌||◌, cond, or_assoc, or-false}
use mathlib.Core.Logic.{◌⊎◌, inl, inr}
use mathlib.Core.List.{List, [], ◌∷◌}
use lib.ListN.{length, get_or, take, set, replicate, length-set}
use lib.Seq.{get_or-set_same, get_or-set_other}
use lib.Dec.{T, eqb, eqb→eq, T_not}
use Rattle.laws.specs.Lists.{some?}
use Rattle.laws.proofs.Tests.{decide, T_true, ne_eqb, eq-eqb}
use Rattle.residence.specs.Marks.{Marked}

-- ---- one element more

pub some_take : {A : Type 0} (f : A → Bool) (xs : List A) (k : ℕ) (d : A) → k < length xs → some? f (take (suc k) xs) ≡ (some? f (take k xs) || f (get_or xs k d))
unfolding some?
some_take f [] k d h = absurd (not-suc-le-zero h)
some_take f (x ∷ xs) zero d h = or-false (f x)
some_take f (x ∷ xs) (suc k) d h =
    ap (λ (b : Bool). f x || b) (some_take f xs k d (le_of_suc-le-suc h)) ∙ sym (or_assoc (f x) (some? f (take k xs)) (f (get_or xs k d)))

-- ---- marks

module _ (first : ℕ) where
  pub mark_none : (c : List ℕ) → Marked first (λ _. false) c c
  mark_none c = record { same = refl; behind = λ s. refl; before = λ g h. refl }

  pub mark_same : {h k : ℕ → Bool} {c c' : List ℕ} → ((s : ℕ) → h s ≡ k s) → Marked first h c c' → Marked first k c c'
  mark_same {h} {k} {c} e m = record {
    same = m.same;
    behind = λ s. m.behind s ∙ ap (λ (t : Bool). cond t 1 (get_or c (first + s) 0)) (e s);
    before = m.before;
  }

  pub mark_set : (c : List ℕ) (f : ℕ) → first + f < length c → Marked first (λ s. eqb s f) c (set c (first + f) 1)
  mark_set c f h = record {
    same = length-set c (first + f) 1;
    behind = λ s. go s (decide (eqb s f));
    before = λ g l. get_or-set_other c (first + f) g 1 0 (λ e. omega (arith, e));
  }
    where
      go : (s : ℕ) → T (eqb s f) ⊎ T (not (eqb s f)) → get_or (set c (first + f) 1) (first + s) 0 ≡ cond (eqb s f) 1 (get_or c (first + s) 0)
      go s (inl t) =
          ap (λ (i : ℕ). get_or (set c (first + f) 1) (first + i) 0) (eqb→eq s f t) ∙ get_or-set_same c (first + f) 1 0 h
          ∙ ap (λ (b : Bool). cond b 1 (get_or c (first + s) 0)) (sym (T_true (eqb s f) t))
      go s (inr t) =
          let ne : s ≡ f → ⊥ = λ e. T_not (eqb s f) t (eq-eqb s f e) in
          get_or-set_other c (first + f) (first + s) 1 0 (λ e. ne (omega (arith, e)))
          ∙ ap (λ (b : Bool). cond b 1 (get_or c (first + s) 0)) (sym (ne_eqb s f ne))

  both_marks : (a b : Bool) (x : ℕ) → cond b 1 (cond a 1 x) ≡ cond (a || b) 1 x
  both_marks true true x = refl
  both_marks true false x = refl
  both_marks false b x = refl

  pub mark_then : {h k : ℕ → Bool} {c c' c'' : List ℕ} → Marked first h c c' → Marked first k c' c'' → Marked first (λ s. h s || k s) c c''
  mark_then {h} {k} {c} m n = record {
    same = n.same ∙ m.same;
    behind = λ s. n.behind s ∙ ap (λ (x : ℕ). cond (k s) 1 x) (m.behind s) ∙ both_marks (h s) (k s) (get_or c (first + s) 0);
    before = λ g l. n.before g l ∙ m.before g l;
  }

-- a table of zeros has no mark
pub zeros_at : (n g : ℕ) → get_or (replicate {A = ℕ} n 0) g 0 ≡ 0
zeros_at zero g = refl
zeros_at (suc n) zero = refl
zeros_at (suc n) (suc g) = zeros_at n g
