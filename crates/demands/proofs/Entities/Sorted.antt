-- Entities sorted by their names: the same members, in ascending order.
-- Assumes nothing.
use Prim.Native.Nat.{ℕ, ◌<◌}
use native.Mathlib.Omega.{arith}
use mathlib.Core.Path.{◌≡◌, refl, sym, ap, subst}
use mathlib.Core.Bool.{Bool, true, false, cond, not}
use mathlib.Core.Logic.{◌⊎◌, inl, inr}
use mathlib.Core.List.{List, [], ◌∷◌, map}
use lib.Dec.{T, ltb, eqb, ltb→lt, nltb→le, eqb→eq, eqb_refl}
use Rattle.laws.specs.Lists.{In, pairwise, ascending, flat}
use Rattle.paper.specs.Mesh.{Entity, name, insert_ent, sort_ents, Parts, mesh_of}
use Rattle.laws.proofs.Keyed.{head_below, tail_ascends, cons_ascends}
use Rattle.demands.proofs.Entities.Names.{Uniq}

-- ---- insertion

insert_in : (e : Entity) (es : List Entity) (a : Entity) → In a (insert_ent e es) → (a ≡ e) ⊎ In a es
unfolding insert_ent
insert_in e [] a (inl p) = inl p
insert_in e [] a (inr i) = absurd i
insert_in e (f ∷ fs) a i = go (ltb (name e) (name f)) (eqb (name e) (name f)) i (insert_in e fs a)
  where
    more : (a ≡ e) ⊎ In a fs → (a ≡ e) ⊎ In a (f ∷ fs)
    more (inl p) = inl p
    more (inr j) = inr (inr j)

    go : (b c : Bool) → In a (cond b (e ∷ f ∷ fs) (cond c (f ∷ fs) (f ∷ insert_ent e fs))) → (In a (insert_ent e fs) → (a ≡ e) ⊎ In a fs) → (a ≡ e) ⊎ In a (f ∷ fs)
    go true c (inl p) rest = inl p
    go true c (inr j) rest = inr j
    go false true j rest = inr j
    go false false (inl p) rest = inr (inl p)
    go false false (inr j) rest = more (rest j)

in_insert : (e : Entity) (es : List Entity) (a : Entity) → In a es → In a (insert_ent e es)
unfolding insert_ent
in_insert e [] a i = absurd i
in_insert e (f ∷ fs) a i = go (ltb (name e) (name f)) (eqb (name e) (name f)) i (in_insert e fs a)
  where
    go : (b c : Bool) → In a (f ∷ fs) → (In a fs → In a (insert_ent e fs)) → In a (cond b (e ∷ f ∷ fs) (cond c (f ∷ fs) (f ∷ insert_ent e fs)))
    go true c j rest = inr j
    go false true j rest = j
    go false false (inl p) rest = inl p
    go false false (inr j) rest = inr (rest j)

-- what is inserted is there, unless its name was
insert_self : (e : Entity) (es : List Entity) → ((f : Entity) → In f es → name e ≡ name f → e ≡ f) → In e (insert_ent e es)
unfolding insert_ent
insert_self e [] u = inl refl
insert_self e (f ∷ fs) u = go (ltb (name e) (name f)) (eqb (name e) (name f)) (λ t. eqb→eq (name e) (name f) t) (insert_self e fs (λ g i p. u g (inr i) p))
  where
    go : (b c : Bool) → (T c → name e ≡ name f) → In e (insert_ent e fs) → In e (cond b (e ∷ f ∷ fs) (cond c (f ∷ fs) (f ∷ insert_ent e fs)))
    go true c h rest = inl refl
    go false true h rest = inl (u f (inl refl) (h tt))
    go false false h rest = inr rest

insert-ascends : (e : Entity) (es : List Entity) → T (ascending (map name es)) → T (ascending (map name (insert_ent e es)))
unfolding insert_ent
insert-ascends e [] t = cons_ascends name e [] (λ a i. absurd i) t
insert-ascends e (f ∷ fs) t =
    go (ltb (name e) (name f)) refl (eqb (name e) (name f)) refl (insert-ascends e fs (tail_ascends name f fs t))
  where
    up : name e < name f → (a : Entity) → In a (f ∷ fs) → name e < name a
    up h a (inl p) = omega (arith, h, ap name p)
    up h a (inr i) = omega (arith, h, head_below name f fs t a i)

    down : name f < name e → (a : Entity) → (a ≡ e) ⊎ In a fs → name f < name a
    down h a (inl p) = omega (arith, h, ap name p)
    down h a (inr i) = head_below name f fs t a i

    apart : ltb (name e) (name f) ≡ false → eqb (name e) (name f) ≡ false → name f < name e
    apart x y =
        let le = nltb→le (name e) (name f) (subst (λ (b : Bool). T (not b)) (sym x) tt) in
        let ne : name e ≡ name f → ⊥ = λ p. subst T y (subst (λ (z : ℕ). T (eqb (name e) z)) p (eqb_refl (name e))) in
        omega arith

    go : (b : Bool) → ltb (name e) (name f) ≡ b → (c : Bool) → eqb (name e) (name f) ≡ c → T (ascending (map name (insert_ent e fs)))
        → T (ascending (map name (cond b (e ∷ f ∷ fs) (cond c (f ∷ fs) (f ∷ insert_ent e fs)))))
    go true x c y rest = cons_ascends name e (f ∷ fs) (up (ltb→lt (name e) (name f) (subst T (sym x) tt))) t
    go false x true y rest = t
    go false x false y rest = cons_ascends name f (insert_ent e fs) (λ a i. down (apart x y) a (insert_in e fs a i)) rest

-- ---- sorting

pub sort_in : (es : List Entity) (a : Entity) → In a (sort_ents es) → In a es
unfolding sort_ents
sort_in [] a i = i
sort_in (e ∷ es) a i = go (insert_in e (sort_ents es) a i) (sort_in es a)
  where
    go : (a ≡ e) ⊎ In a (sort_ents es) → (In a (sort_ents es) → In a es) → In a (e ∷ es)
    go (inl p) rest = inl p
    go (inr j) rest = inr (rest j)

pub in_sort : (es : List Entity) → Uniq es → (a : Entity) → In a es → In a (sort_ents es)
unfolding sort_ents
in_sort [] u a i = i
in_sort (e ∷ es) u a (inl p) =
    subst (λ (z : Entity). In z (insert_ent e (sort_ents es))) (sym p) (insert_self e (sort_ents es) (λ f i q. u e f (inl refl) (inr (sort_in es f i)) q))
in_sort (e ∷ es) u a (inr i) = in_insert e (sort_ents es) a (in_sort es (λ x y j k q. u x y (inr j) (inr k) q) a i)

pub sort_ascends : (es : List Entity) → T (ascending (map name (sort_ents es)))
unfolding sort_ents ascending pairwise
sort_ascends [] = tt
sort_ascends (e ∷ es) = insert-ascends e (sort_ents es) (sort_ascends es)

pub mesh-ascends : (ps : Parts) → T (ascending (map name (mesh_of ps)))
unfolding mesh_of
mesh-ascends ps = sort_ascends (flat ps)
