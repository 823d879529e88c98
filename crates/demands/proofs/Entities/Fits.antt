-- An entity that fits among others, in plain propositions: field by field, its boundary, and that it fits in other lists as well.
-- Assumes nothing.
use Prim.Native.Nat.{ℕ, zero, suc, ◌+◌, ◌^◌, ◌<◌, ◌≤◌}
use mathlib.Core.Path.{◌≡◌, refl, sym, subst}
use mathlib.Core.Bool.{◌&&◌}
use mathlib.Core.List.{List}
use lib.ListN.{length}
use lib.Dec.{T, eqb, eqb→eq, ltb, leb, leb→le, ltb→lt, le→leb, lt→ltb}
use Rattle.laws.specs.Lists.{In, every, ascending, same}
use Rattle.paper.specs.Sound.{value_fitting}
use Rattle.paper.specs.Mesh.{Entity, name_of, holds, simplex}
use Rattle.paper.specs.Placement.{shape_fits, ent_fits}
use Rattle.laws.proofs.Tests.{both, split2, split3, split7, join3, join7, eq-eqb}
use Rattle.laws.proofs.Members.{every_in, in_every}
use Rattle.demands.proofs.Entities.Names.{Uniq, holds_in, in_holds}
use Rattle.demands.proofs.Entities.Closed.{Closed, simplex-same}

pub record EntOk (es : List Entity) (e : Entity) : Type 0 where
  pub dim : e.dim ≤ 3
  pub number : e.number < 2 ^ 32
  pub kind : e.kind ≤ 2
  pub value : e.value < 2 ^ 64
  pub fits : T (value_fitting e.kind e.value)
  pub shape : T (shape_fits es e.dim e.shape)
  pub simple : T (simplex es e.dim e.number e.shape)

pub ok_of : (es : List Entity) (e : Entity) → T (ent_fits es e) → EntOk es e
unfolding ent_fits
ok_of es e t =
    let s = split7 (leb e.dim 3) (ltb e.number (2 ^ 32)) (leb e.kind 2) (ltb e.value (2 ^ 64)) (value_fitting e.kind e.value) (shape_fits es e.dim e.shape) (simplex es e.dim e.number e.shape) t in
    record {
      dim = leb→le e.dim 3 s.0;
      number = ltb→lt e.number (2 ^ 32) s.1;
      kind = leb→le e.kind 2 s.2;
      value = ltb→lt e.value (2 ^ 64) s.3;
      fits = s.4;
      shape = s.5;
      simple = s.6;
    }

pub fits_of : (es : List Entity) (e : Entity) → EntOk es e → T (ent_fits es e)
unfolding ent_fits
fits_of es e k =
    join7 (leb e.dim 3) (ltb e.number (2 ^ 32)) (leb e.kind 2) (ltb e.value (2 ^ 64)) (value_fitting e.kind e.value) (shape_fits es e.dim e.shape) (simplex es e.dim e.number e.shape)
    (le→leb e.dim 3 k.dim, lt→ltb e.number (2 ^ 32) k.number, le→leb e.kind 2 k.kind, lt→ltb e.value (2 ^ 64) k.value, k.fits, k.shape, k.simple)

-- ---- its boundary

pub record FacesOk (es : List Entity) (d : ℕ) (shape : List ℕ) : Type 0 where
  pub count : length shape ≡ d + 2
  pub ascends : T (ascending shape)
  pub held : (j : ℕ) → In j shape → (j < 2 ^ 32) × T (holds es (name_of d j))

pub faces_of_lem : (es : List Entity) (d : ℕ) (shape : List ℕ) → T (shape_fits es (suc d) shape) → FacesOk es d shape
unfolding shape_fits
faces_of_lem es d shape t =
    let s = split3 (eqb (length shape) (d + 2)) (ascending shape) (every (λ k. ltb k (2 ^ 32) && holds es (name_of d k)) shape) t in
    record {
      count = eqb→eq (length shape) (d + 2) s.0;
      ascends = s.1;
      held = λ j i. let h = split2 (ltb j (2 ^ 32)) (holds es (name_of d j)) (every_in (λ k. ltb k (2 ^ 32) && holds es (name_of d k)) shape s.2 j i) in
          (ltb→lt j (2 ^ 32) h.0, h.1);
    }

pub of_faces : (es : List Entity) (d : ℕ) (shape : List ℕ) → FacesOk es d shape → T (shape_fits es (suc d) shape)
unfolding shape_fits
of_faces es d shape f =
    join3 (eqb (length shape) (d + 2)) (ascending shape) (every (λ k. ltb k (2 ^ 32) && holds es (name_of d k)) shape) (
      eq-eqb (length shape) (d + 2) f.count,
      f.ascends,
      in_every (λ k. ltb k (2 ^ 32) && holds es (name_of d k)) shape
          (λ j i. both (ltb j (2 ^ 32)) (holds es (name_of d j)) (lt→ltb j (2 ^ 32) (f.held j i).0) (f.held j i).1),
    )

-- ---- in other lists

-- entities that fit where they are make a closed list
pub fits_closed : (es : List Entity) → ((e : Entity) → In e es → EntOk es e) → Closed es
fits_closed es h =
    record {
      number = λ e i. (h e i).number;
      shape = λ e d j i p m. (faces_of_lem es d e.shape (subst (λ (z : ℕ). T (shape_fits es z e.shape)) p (h e i).shape)).held j m;
    }

-- a shape that fits one list fits another that holds the boundary
shape_moves : (es fs : List Entity) (d : ℕ) (shape : List ℕ) → T (shape_fits es d shape)
    → ((c j : ℕ) → d ≡ suc c → In j shape → T (holds fs (name_of c j))) → T (shape_fits fs d shape)
unfolding shape_fits
shape_moves es fs zero shape t h = t
shape_moves es fs (suc d) shape t h =
    let f = faces_of_lem es d shape t in
    of_faces fs d shape (record { count = f.count; ascends = f.ascends; held = λ j i. ((f.held j i).0, h d j refl i) })

-- an entity that fits one list fits another that holds its boundary and judges it the same
ok_moves : (es fs : List Entity) (e : Entity) → EntOk es e → ((d j : ℕ) → e.dim ≡ suc d → In j e.shape → T (holds fs (name_of d j)))
    → simplex es e.dim e.number e.shape ≡ simplex fs e.dim e.number e.shape → EntOk fs e
ok_moves es fs e k held same =
    record {
      dim = k.dim;
      number = k.number;
      kind = k.kind;
      value = k.value;
      fits = k.fits;
      shape = shape_moves es fs e.dim e.shape k.shape held;
      simple = subst T same k.simple;
    }

-- from a closed list to a larger one, and back
module _ (sub big : List Entity) (c : Closed sub) (us : Uniq sub) (ub : Uniq big) (inc : (e : Entity) → In e sub → In e big) where
  sub_holds : (k : ℕ) → T (holds sub k) → T (holds big k)
  sub_holds k t = let w = holds_in sub k t in subst (λ (z : ℕ). T (holds big z)) (sym w.2) (in_holds big w.0 (inc w.0 w.1))

  pub ok_up : (e : Entity) → In e sub → EntOk sub e → EntOk big e
  ok_up e i k = ok_moves sub big e k (λ d j p m. sub_holds (name_of d j) (c.shape e d j i p m).1) (simplex-same sub big c us ub inc e i k.dim)

  pub ok_down : (e : Entity) → In e sub → EntOk big e → EntOk sub e
  ok_down e i k = ok_moves big sub e k (λ d j p m. (c.shape e d j i p m).1) (sym (simplex-same sub big c us ub inc e i k.dim))
