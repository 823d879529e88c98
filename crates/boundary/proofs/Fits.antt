-- Faces that are those of one simplex, in plain propositions: a list of vertices has all of theirs, and for each of its vertices the
-- others are a face. Assumes nothing.
use Prim.Native.Nat.{ℕ, ◌≤◌}
use native.Mathlib.Omega.{arith}
use mathlib.Core.Path.{◌≡◌, refl, sym, ap, subst}
use mathlib.Core.Bool.{Bool, not, cond}
use mathlib.Core.Logic.{◌⊎◌, inl, inr}
use mathlib.Core.List.{List, [], ◌∷◌}
use lib.ListN.{length}
use lib.Dec.{T, eqb, eqb→eq, eqb_refl, T_not}
use Rattle.laws.specs.Lists.{In, some?, keep, ascending, same, unions}
use Rattle.laws.proofs.Tests.{and_l, and_r, both, decide, eq-eqb, ne_eqb, ne_T}
use Rattle.laws.proofs.Members.{every_in, in_every, some_in, in_some, keep_in, in_keep}
use Rattle.laws.proofs.Ascending.{asc_head}
use Rattle.laws.proofs.Same.{same_eq, same_refl}
use Rattle.laws.proofs.Increasing.{unions_in}
use Rattle.boundary.specs.Boundary.{others, each_faced, faces_fit}
use Rattle.boundary.proofs.Pigeon.{no_other}
use Rattle.boundary.proofs.Unions.{asc_unions, in_unions}
use Rattle.laws.proofs.Keyed.{asc_ext}

-- the vertices vs ascend, the faces fs are no more than these, and for each vertex the others are a face
pub record Fits (vs : List ℕ) (fs : List (List ℕ)) : Type 0 where
  pub ascends : T (ascending vs)
  pub few : length fs ≤ length vs
  pub faced : (v : ℕ) → In v vs → In (others v vs) fs

-- who is left out is told by the others
left_one : (vs : List ℕ) (v w : ℕ) → In v vs → others v vs ≡ others w vs → v ≡ w
left_one vs v w i e = go (decide (eqb v w))
  where
    go : T (eqb v w) ⊎ T (not (eqb v w)) → v ≡ w
    go (inl t) = eqb→eq v w t
    go (inr t) =
        let there = in_keep (λ q. not (eqb q w)) vs v i t in
        absurd (T_not (eqb v v) (keep_in (λ q. not (eqb q v)) vs v (subst (λ (l : List ℕ). In v l) (sym e) there)).1 (eqb_refl v))

-- each face is the others of a vertex
pub fit_each : {vs : List ℕ} {fs : List (List ℕ)} → Fits vs fs → (f : List ℕ) → In f fs → (v : ℕ) × In v vs × (f ≡ others v vs)
fit_each {vs} {fs} fit = no_other (λ v. others v vs) fs vs fit.ascends (λ v w i j. left_one vs v w i) fit.faced fit.few

faced_all : (vs : List ℕ) (fs : List (List ℕ)) → T (each_faced vs fs) → (v : ℕ) → In v vs → In (others v vs) fs
unfolding each_faced
faced_all vs fs t v i =
    let w = some_in (λ f. same f (others v vs)) fs (every_in (λ v. some? (λ f. same f (others v vs)) fs) vs t v i) in
    subst (λ (l : List ℕ). In l fs) (same_eq w.0 (others v vs) w.2) w.1

all_faced : (vs : List ℕ) (fs : List (List ℕ)) → ((v : ℕ) → In v vs → In (others v vs) fs) → T (each_faced vs fs)
unfolding each_faced
all_faced vs fs h =
    in_every (λ v. some? (λ f. same f (others v vs)) fs) vs (λ v i. in_some (λ f. same f (others v vs)) fs (others v vs) (h v i) (same_refl (others v vs)))

-- the faces of a simplex fit its vertices
pub fit_faces : (k : ℕ) (fs : List (List ℕ)) → length fs ≤ k → T (faces_fit k fs) → (length (unions fs) ≡ k) × Fits (unions fs) fs
unfolding faces_fit
fit_faces k fs few t =
    let n = eqb (length (unions fs)) k in
    let e = eqb→eq (length (unions fs)) k (and_l n (each_faced (unions fs) fs) t) in
    (e, record { ascends = asc_unions fs; few = omega (arith, e); faced = faced_all (unions fs) fs (and_r n (each_faced (unions fs) fs) t) })

another : (vs : List ℕ) → 2 ≤ length vs → T (ascending vs) → (q : ℕ) → In q vs → (v : ℕ) × In v vs × (q ≡ v → ⊥)
another [] h t q i = absurd i
another (x ∷ []) h t q i = absurd (omega (arith, h))
another (x ∷ y ∷ ys) h t q (inl e) = (y, inr (inl refl), λ z. omega (arith, asc_head x (y ∷ ys) t y (inl refl), e, z))
another (x ∷ y ∷ ys) h t q (inr i) = (x, inl refl, λ z. omega (arith, asc_head x (y ∷ ys) t q i, z))

-- vertices that fit, two or more, are all that the faces have
pub fit_unions : (vs : List ℕ) (fs : List (List ℕ)) → 2 ≤ length vs → Fits vs fs → unions fs ≡ vs
fit_unions vs fs h fit =
    asc_ext (unions fs) vs (asc_unions fs) fit.ascends
    (λ q i.
    let w = unions_in fs q i in
    let v = fit_each fit w.0 w.1 in
    (keep_in (λ q. not (eqb q v.0)) vs q (subst (λ (l : List ℕ). In q l) v.2 w.2)).0)
    (λ q i.
    let o = another vs h fit.ascends q i in
    in_unions fs (others o.0 vs) q (fit.faced o.0 o.1) (in_keep (λ w. not (eqb w o.0)) vs q i (ne_T q o.0 o.2)))

pub faces_fit_lem : (vs : List ℕ) (fs : List (List ℕ)) → 2 ≤ length vs → Fits vs fs → T (faces_fit (length vs) fs)
unfolding faces_fit
faces_fit_lem vs fs h fit =
    let e = fit_unions vs fs h fit in
    both (eqb (length (unions fs)) (length vs)) (each_faced (unions fs) fs) (eq-eqb (length (unions fs)) (length vs) (ap length e))
    (subst (λ (l : List ℕ). T (each_faced l fs)) (sym e) (all_faced vs fs fit.faced))

-- ---- one left out

pub tail_out : (x : ℕ) (xs : List ℕ) (v : ℕ) → T (ascending (x ∷ xs)) → In v xs → others v (x ∷ xs) ≡ x ∷ others v xs
unfolding keep
tail_out x xs v t i = ap (λ (b : Bool). cond (not b) (x ∷ others v xs) (others v xs)) (ne_eqb x v (λ z. omega (arith, asc_head x xs t v i, z)))
