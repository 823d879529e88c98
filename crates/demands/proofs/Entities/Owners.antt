-- The owner rule, poor to rich: the owner is one of the residence parts, none of them has fewer objects, and of equals it is the smallest.
-- Assumes nothing.
use Prim.Native.Nat.{ℕ, ◌<◌, ◌≤◌}
use native.Mathlib.Omega.{arith}
use mathlib.Core.Path.{◌≡◌, refl, sym, ap, subst}
use mathlib.Core.Bool.{Bool, true, false, not, cond}
use mathlib.Core.Logic.{inl, inr}
use mathlib.Core.List.{List, [], ◌∷◌}
use lib.Dec.{T, ltb, ltb→lt, nltb→le}
use Rattle.laws.specs.Lists.{In, ascending}
use Rattle.paper.specs.Mesh.{Parts, objects_in, poorest, owner_among}
use Rattle.laws.proofs.Ascending.{asc_head, asc_tail}

poorest_in : (c : ℕ → ℕ) (p : ℕ) (qs : List ℕ) → In (poorest c p qs) (p ∷ qs)
unfolding poorest
poorest_in c p [] = inl refl
poorest_in c p (q ∷ qs) = go (ltb (c q) (c p)) (poorest_in c (cond (ltb (c q) (c p)) q p) qs)
  where
    go : (b : Bool) → In (poorest c (cond (ltb (c q) (c p)) q p) qs) (cond b q p ∷ qs) → In (poorest c (cond (ltb (c q) (c p)) q p) qs) (p ∷ q ∷ qs)
    go true (inl e) = inr (inl e)
    go true (inr i) = inr (inr i)
    go false (inl e) = inl e
    go false (inr i) = inr (inr i)

pub owner_in : (ps : Parts) (qs : List ℕ) (p : ℕ) → In p qs → In (owner_among ps qs) qs
unfolding owner_among
owner_in ps [] p i = absurd i
owner_in ps (q ∷ qs) p i = poorest_in (objects_in ps) q qs

-- c is no greater at o than at x, and where it is equal o is no later
abbrev Least : (ℕ → ℕ) → ℕ → ℕ → Type 0
Least c o x = (c o ≤ c x) × (c o ≡ c x → o ≤ x)

poorest_least : (c : ℕ → ℕ) (p : ℕ) (qs : List ℕ) → ((q : ℕ) → In q qs → p < q) → T (ascending qs) → (q : ℕ) → In q (p ∷ qs) → Least c (poorest c p qs) q
unfolding poorest
poorest_least c p [] up t q (inl e) = let z : c q ≡ c p = ap c e in (omega arith, λ _. omega arith)
poorest_least c p [] up t q (inr i) = absurd i
poorest_least c p (r ∷ qs) up t q i =
    go (ltb (c r) (c p)) refl i (poorest_least c p qs (λ x j. up x (inr j)) (asc_tail r qs t)) (poorest_least c r qs (asc_head r qs t) (asc_tail r qs t))
  where
    go : (b : Bool) → ltb (c r) (c p) ≡ b → In q (p ∷ r ∷ qs) → ((x : ℕ) → In x (p ∷ qs) → Least c (poorest c p qs) x)
        → ((x : ℕ) → In x (r ∷ qs) → Least c (poorest c r qs) x) → Least c (poorest c (cond b r p) qs) q
    go true e (inl z) stays goes =
        let w = goes r (inl refl) in
        let l : c r < c p = ltb→lt (c r) (c p) (subst T (sym e) tt) in
        let y : c q ≡ c p = ap c z in
        (omega (arith, w.0), λ f. omega (arith, w.0))
    go true e (inr j) stays goes = goes q j
    go false e (inl z) stays goes = stays q (inl z)
    go false e (inr (inl z)) stays goes =
        let w = stays p (inl refl) in
        let l : c p ≤ c r = nltb→le (c r) (c p) (subst (λ (b : Bool). T (not b)) (sym e) tt) in
        let y : c q ≡ c r = ap c z in
        let u : p < r = up r (inl refl) in
        (omega (arith, w.0), λ f. let g : c (poorest c p qs) ≡ c p = omega (arith, w.0) in omega (arith, w.1 g))
    go false e (inr (inr j)) stays goes = stays q (inr j)

-- what document 01 says of an owner o among the residence parts qs
pub record Poorest (ps : Parts) (qs : List ℕ) (o : ℕ) : Type 0 where
  pub resides : In o qs
  pub fewest : (q : ℕ) → In q qs → objects_in ps o ≤ objects_in ps q
  pub smallest : (q : ℕ) → In q qs → objects_in ps o ≡ objects_in ps q → o ≤ q

pub owner_poorest : (ps : Parts) (qs : List ℕ) → T (ascending qs) → (p : ℕ) → In p qs → Poorest ps qs (owner_among ps qs)
unfolding owner_among
owner_poorest ps [] t p i = absurd i
owner_poorest ps (q ∷ qs) t p i =
    let least = poorest_least (objects_in ps) q qs (asc_head q qs t) (asc_tail q qs t) in
    record { resides = poorest_in (objects_in ps) q qs; fewest = λ x j. (least x j).0; smallest = λ x j. (least x j).1 }
