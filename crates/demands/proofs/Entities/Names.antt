-- Entities by their names: what a list of entities holds, and the entity that a name stands for.
-- Assumes nothing.
use Prim.Native.Nat.{ℕ, zero, suc, ◌^◌, ◌<◌}
use native.Mathlib.Omega.{arith}
use mathlib.Core.Path.{◌≡◌, sym, ap, subst}
use mathlib.Core.Bool.{not}
use mathlib.Core.Logic.{◌⊎◌, inl, inr}
use mathlib.Core.List.{List, [], map}
use lib.Dec.{T, eqb, eqb→eq, eqb_refl, T_not}
use Rattle.laws.specs.Lists.{In, some?, first_or, member}
use Rattle.paper.specs.Mesh.{Entity, name_of, name, face_names, faces, bounds, is_object, holds, ent_named, no_ent}
use Rattle.laws.proofs.Members.{in_some, some_in, map_in, in_map, member_in, in_member, first_or_in}
use Rattle.laws.proofs.Tests.{iff_eq, decide}

-- a name stands for one entity
abbrev pub Uniq : List Entity → Type 0
Uniq es = (e f : Entity) → In e es → In f es → name e ≡ name f → e ≡ f

pub holds_in : (es : List Entity) (k : ℕ) → T (holds es k) → (e : Entity) × In e es × (k ≡ name e)
unfolding holds
holds_in es k t = map_in name es k (member_in k (map name es) t)

pub in_holds : (es : List Entity) (e : Entity) → In e es → T (holds es (name e))
unfolding holds
in_holds es e i = in_member (name e) (map name es) (in_map name es e i)

named_in : (es : List Entity) (k : ℕ) → T (holds es k) → In (ent_named es k) es × (name (ent_named es k) ≡ k)
unfolding ent_named
named_in es k t =
    let w = holds_in es k t in
    let r = first_or_in no_ent (λ e. eqb k (name e)) es (in_some (λ e. eqb k (name e)) es w.0 w.1 (subst (λ (z : ℕ). T (eqb k z)) w.2 (eqb_refl k))) in
    (r.0, sym (eqb→eq k (name (first_or no_ent (λ e. eqb k (name e)) es)) r.1))

pub named_is : (es : List Entity) → Uniq es → (e : Entity) → In e es → ent_named es (name e) ≡ e
named_is es u e i = let r = named_in es (name e) (in_holds es e i) in u (ent_named es (name e)) e r.0 i r.1

-- a name has its dimension and its number
pub name_dim : (d k d' k' : ℕ) → k < 2 ^ 32 → k' < 2 ^ 32 → name_of d k ≡ name_of d' k' → d ≡ d'
name_dim d k d' k' h h' e = omega arith

pub name-number : (d k d' k' : ℕ) → k < 2 ^ 32 → k' < 2 ^ 32 → name_of d k ≡ name_of d' k' → k ≡ k'
name-number d k d' k' h h' e = omega arith

-- ---- boundaries

pub bounds_in : (d k : ℕ) (f : Entity) → f.dim ≡ suc d → T (bounds k f) → (j : ℕ) × In j f.shape × (k ≡ name_of d j)
unfolding faces face_names
bounds_in d k f e t =
    map_in (name_of d) f.shape k (member_in k (map (name_of d) f.shape) (subst (λ (z : ℕ). T (member k (face_names z f.shape))) e t))

pub in_bounds : (d j : ℕ) (f : Entity) → f.dim ≡ suc d → In j f.shape → T (bounds (name_of d j) f)
unfolding faces face_names
in_bounds d j f e i =
    subst (λ (z : ℕ). T (member (name_of d j) (face_names z f.shape))) (sym e) (in_member (name_of d j) (map (name_of d) f.shape) (in_map (name_of d) f.shape j i))

pub vertex-bounds : (k : ℕ) (f : Entity) → f.dim ≡ zero → T (bounds k f) → ⊥
unfolding faces face_names
vertex-bounds k f e t = member_in k [] (subst (λ (z : ℕ). T (member k (face_names z f.shape))) e t)

-- an object of one list is one of another with the same members
pub object_same : (es fs : List Entity) (k : ℕ) → ((e : Entity) → In e es → In e fs) → ((e : Entity) → In e fs → In e es) → is_object es k ≡ is_object fs k
unfolding is_object
object_same es fs k f g =
    ap not (iff_eq (some? (bounds k) es) (some? (bounds k) fs)
    (λ t. let w = some_in (bounds k) es t in in_some (bounds k) fs w.0 (f w.0 w.1) w.2)
    (λ t. let w = some_in (bounds k) fs t in in_some (bounds k) es w.0 (g w.0 w.1) w.2))

pub not_object : (es : List Entity) (k : ℕ) (f : Entity) → In f es → T (bounds k f) → T (is_object es k) → ⊥
unfolding is_object
not_object es k f i b t = T_not (some? (bounds k) es) t (in_some (bounds k) es f i b)

-- an object, or on the boundary of something
pub object_or : (es : List Entity) (k : ℕ) → T (is_object es k) ⊎ ((f : Entity) × In f es × T (bounds k f))
unfolding is_object
object_or es k = go (decide (some? (bounds k) es))
  where
    go : T (some? (bounds k) es) ⊎ T (not (some? (bounds k) es)) → T (not (some? (bounds k) es)) ⊎ ((f : Entity) × In f es × T (bounds k f))
    go (inl t) = inr (some_in (bounds k) es t)
    go (inr t) = inl t

-- ---- lists of lists that a function makes
