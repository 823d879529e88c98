-- Lists that are as many as the members of vs, and among which there is one for each of these, are all such. Assumes nothing.
use Prim.Native.Nat.{ℕ, suc, ◌≤◌, ◌<◌}
use native.Mathlib.Omega.{arith}
use mathlib.Core.Path.{◌≡◌, refl, sym, ◌∙◌, subst}
use mathlib.Core.Bool.{Bool, true, false, not, cond}
use mathlib.Core.Logic.{◌⊎◌, inl, inr}
use mathlib.Core.List.{List, [], ◌∷◌}
use lib.ListN.{length}
use lib.Dec.{T, eqb, T_not, not_T}
use Rattle.laws.specs.Lists.{In, some?, keep, ascending, same}
use Rattle.laws.proofs.Tests.{decide, eq-eqb}
use Rattle.laws.proofs.Members.{some_in, in_some, keep_in, in_keep}
use Rattle.laws.proofs.Ascending.{asc_keep, left_out}
use Rattle.laws.proofs.Same.{same_eq, same_refl}
use Rattle.boundary.specs.Boundary.{others}

module _ (g : ℕ → List ℕ) where
  OneToOne : List ℕ → Type 0
  OneToOne vs = (v w : ℕ) → In v vs → In w vs → g v ≡ g w → v ≡ w

  -- each of different lists is among fs: then fs are as many
  Enough : List (List ℕ) → Type 0
  Enough fs = (vs : List ℕ) → T (ascending vs) → OneToOne vs → ((v : ℕ) → In v vs → In (g v) fs) → length vs ≤ length fs

  enough : (fs : List (List ℕ)) → Enough fs
  unfolding OneToOne Enough
  enough [] [] t u h = omega arith
  enough [] (v ∷ vs) t u h = absurd (h v (inl refl))
  enough (f ∷ fs) vs t u h = go (enough fs) (decide (some? (λ v. same f (g v)) vs))
    where
      past : (v : ℕ) → (f ≡ g v → ⊥) → In (g v) (f ∷ fs) → In (g v) fs
      past v ne (inl e) = absurd (ne (sym e))
      past v ne (inr i) = i

      go : Enough fs → T (some? (λ v. same f (g v)) vs) ⊎ T (not (some? (λ v. same f (g v)) vs)) → length vs ≤ suc (length fs)
      go rest (inl s) =
          let w = some_in (λ v. same f (g v)) vs s in
          let e = same_eq f (g w.0) w.2 in
          let is = keep_in (λ q. not (eqb q w.0)) vs in
          let fewer = rest (others w.0 vs) (asc_keep (λ q. not (eqb q w.0)) vs t) (λ v x i j. u v x (is v i).0 (is x j).0)
          (λ v i. past v (λ z. T_not (eqb v w.0) (is v i).1 (eq-eqb v w.0 (u v w.0 (is v i).0 w.1 (sym z ∙ e)))) (h v (is v i).0)) in
          omega (arith, fewer, left_out w.0 vs t w.1)
      go rest (inr s) =
          let fewer = rest vs t u (λ v i. past v (λ z. T_not (some? (λ v. same f (g v)) vs) s (in_some (λ v. same f (g v)) vs v i (subst (λ (l : List ℕ). T (same f l)) z (same_refl f)))) (h v i)) in
          omega (arith, fewer)

  length_without : (p : List ℕ → Bool) (fs : List (List ℕ)) (f : List ℕ) → In f fs → T (not (p f)) → length (keep p fs) < length fs
  unfolding keep
  length_without p [] f i n = absurd i
  length_without p (x ∷ fs) f (inl e) n = go (p x) (subst (λ (l : List ℕ). T (not (p l))) e n) (length-keep p fs)
    where
      length-keep : (p : List ℕ → Bool) (fs : List (List ℕ)) → length (keep p fs) ≤ length fs
      length-keep p [] = omega arith
      length-keep p (x ∷ fs) = step (p x) (length-keep p fs)
        where
          step : (b : Bool) → length (keep p fs) ≤ length fs → length (cond b (x ∷ keep p fs) (keep p fs)) ≤ suc (length fs)
          step true h = omega arith
          step false h = omega arith

      go : (b : Bool) → T (not b) → length (keep p fs) ≤ length fs → length (cond b (x ∷ keep p fs) (keep p fs)) < suc (length fs)
      go true n h = absurd n
      go false n h = omega arith
  length_without p (x ∷ fs) f (inr i) n = go (p x) (length_without p fs f i n)
    where
      go : (b : Bool) → length (keep p fs) < length fs → length (cond b (x ∷ keep p fs) (keep p fs)) < suc (length fs)
      go true h = omega arith
      go false h = omega arith

  -- and where they are no more, no other is among them
  pub no_other : (fs : List (List ℕ)) (vs : List ℕ) → T (ascending vs) → ((v w : ℕ) → In v vs → In w vs → g v ≡ g w → v ≡ w)
      → ((v : ℕ) → In v vs → In (g v) fs) → length fs ≤ length vs → (f : List ℕ) → In f fs → (v : ℕ) × In v vs × (f ≡ g v)
  unfolding OneToOne Enough
  no_other fs vs t u h few f i = go (decide (some? (λ v. same f (g v)) vs))
    where
      go : T (some? (λ v. same f (g v)) vs) ⊎ T (not (some? (λ v. same f (g v)) vs)) → (v : ℕ) × In v vs × (f ≡ g v)
      go (inl s) = let w = some_in (λ v. same f (g v)) vs s in (w.0, w.1, same_eq f (g w.0) w.2)
      go (inr s) =
          let p : List ℕ → Bool = λ x. not (same f x) in
          let n : T (not (p f)) = not_T (p f) (λ z. T_not (same f f) z (same_refl f)) in
          let more = enough (keep p fs) vs t u (λ v j. in_keep p fs (g v) (h v j) (not_T (same f (g v)) (λ z. T_not (some? (λ v. same f (g v)) vs) s (in_some (λ v. same f (g v)) vs v j z)))) in
          absurd (omega (arith, more, length_without p fs f i n, few))
