-- Lists of entities that are closed under boundaries: what is judged of an entity in one is judged the same in a larger list.
-- Assumes nothing.
use Prim.Native.Nat.{ℕ, zero, suc, ◌+◌, ◌^◌, ◌<◌, ◌≤◌}
use native.Mathlib.Nat.{not-suc-le-zero, le_of_suc-le-suc}
use mathlib.Core.Path.{◌≡◌, refl, sym, ap, ap₂, ◌∙◌, subst}
use mathlib.Core.Bool.{Bool, ◌&&◌, ◌||◌, not}
use mathlib.Core.List.{List, map}
use lib.ListN.{length}
use lib.Dec.{T, eqb, ltb}
use Rattle.laws.specs.Lists.{In, some?, keep, member, same, unions}
use Rattle.paper.specs.Mesh.{Entity, name_of, holds, shape_in, vertices, faces_of, share_edges, simplex}
use Rattle.laws.proofs.Agree.{map_same, every-same, some_same, pairwise-same}
use Rattle.demands.proofs.Entities.Names.{Uniq, holds_in, named_is, name_dim, name-number, bounds_in, vertex-bounds}
use Rattle.paper.specs.Mesh.{bounds}

-- ---- tests that agree on the members

-- ---- closed under boundaries

pub record Closed (es : List Entity) : Type 0 where
  pub number : (e : Entity) → In e es → e.number < 2 ^ 32
  pub shape : (e : Entity) (d j : ℕ) → In e es → e.dim ≡ suc d → In j e.shape → (j < 2 ^ 32) × T (holds es (name_of d j))

pub face_ent : (es : List Entity) → Closed es → (e : Entity) (d j : ℕ) → In e es → e.dim ≡ suc d → In j e.shape
    → (o : Entity) × In o es × (o.dim ≡ d) × (o.number ≡ j)
face_ent es c e d j i p m =
    let s = c.shape e d j i p m in
    let w = holds_in es (name_of d j) s.1 in
    let o = w.0 in
    (o, w.1, sym (name_dim d j o.dim o.number s.0 (c.number o w.1) w.2), sym (name-number d j o.dim o.number s.0 (c.number o w.1) w.2))

-- a closed list holds the boundary of what it holds
pub closed_down : (es : List Entity) → Closed es → (k : ℕ) (g : Entity) → In g es → T (bounds k g) → T (holds es k)
closed_down es c k g i b = go g.dim refl
  where
    go : (d : ℕ) → g.dim ≡ d → T (holds es k)
    go zero e = absurd (vertex-bounds k g e b)
    go (suc d) e =
        let w = bounds_in d k g e b in
        subst (λ (z : ℕ). T (holds es z)) (sym w.2) (c.shape g d w.0 i e w.1).1

pub look : (es : List Entity) → Uniq es → (d : ℕ) (e : Entity) → In e es → e.dim ≡ d → shape_in es d e.number ≡ e.shape
look es u d e i p =
    ap (λ (z : ℕ). shape_in es z e.number) (sym p) ∙ ap (λ (x : Entity). x.shape) (named_is es u e i)

-- ---- a closed list in a larger one

module _ (sub big : List Entity) (c : Closed sub) (us : Uniq sub) (ub : Uniq big) (inc : (e : Entity) → In e sub → In e big) where
  look_same : (d : ℕ) (o : Entity) → In o sub → o.dim ≡ d → shape_in sub d o.number ≡ shape_in big d o.number
  look_same d o i p = look sub us d o i p ∙ sym (look big ub d o (inc o i) p)

  vertices-same : (d : ℕ) (o : Entity) → In o sub → o.dim ≡ d → vertices d sub o.number ≡ vertices d big o.number
  unfolding vertices
  vertices-same zero o i p = refl
  vertices-same (suc d) o i p =
      ap (λ (js : List ℕ). unions (map (vertices d sub) js)) (look sub us (suc d) o i p)
      ∙ ap unions (map_same (vertices d sub) (vertices d big) o.shape (λ j m.
      let f = face_ent sub c o d j i p m in
      subst (λ (z : ℕ). vertices d sub z ≡ vertices d big z) f.3 (vertices-same d f.0 f.1 f.2)))
      ∙ ap (λ (js : List ℕ). unions (map (vertices d big) js)) (sym (look big ub (suc d) o (inc o i) p))

  face_vertices : (d : ℕ) (o : Entity) → In o sub → o.dim ≡ suc d → (j : ℕ) → In j o.shape → vertices d sub j ≡ vertices d big j
  face_vertices d o i p j m =
      let f = face_ent sub c o d j i p m in
      subst (λ (z : ℕ). vertices d sub z ≡ vertices d big z) f.3 (vertices-same d f.0 f.1 f.2)

  face_shape : (d : ℕ) (o : Entity) → In o sub → o.dim ≡ suc d → (j : ℕ) → In j o.shape → shape_in sub d j ≡ shape_in big d j
  face_shape d o i p j m =
      let f = face_ent sub c o d j i p m in
      subst (λ (z : ℕ). shape_in sub d z ≡ shape_in big d z) f.3 (look_same d f.0 f.1 f.2)

  faces-same : (d : ℕ) (vs : List ℕ) (o : Entity) → In o sub → o.dim ≡ suc d → faces_of sub d vs o.shape ≡ faces_of big d vs o.shape
  unfolding faces_of
  faces-same d vs o i p =
      ap (λ (b : Bool). eqb (length vs) (d + 2) && b)
      (every-same (λ v. some? (λ f. same (vertices d sub f) (keep (λ w. not (eqb w v)) vs)) o.shape)
      (λ v. some? (λ f. same (vertices d big f) (keep (λ w. not (eqb w v)) vs)) o.shape) vs
      (λ v _. some_same (λ f. same (vertices d sub f) (keep (λ w. not (eqb w v)) vs)) (λ f. same (vertices d big f) (keep (λ w. not (eqb w v)) vs)) o.shape
      (λ f m. ap (λ (x : List ℕ). same x (keep (λ w. not (eqb w v)) vs)) (face_vertices d o i p f m))))

  share_same : (o : Entity) → In o sub → o.dim ≡ 3 → share_edges sub o.shape ≡ share_edges big o.shape
  unfolding share_edges
  share_same o i p =
      pairwise-same (λ f g. some? (λ e. member e (shape_in sub 2 g)) (shape_in sub 2 f)) (λ f g. some? (λ e. member e (shape_in big 2 g)) (shape_in big 2 f)) o.shape
      (λ f g m n. ap₂ (λ (x y : List ℕ). some? (λ e. member e y) x) (face_shape 2 o i p f m) (face_shape 2 o i p g n))

  simplex_at : (d : ℕ) (o : Entity) → In o sub → o.dim ≡ d → d ≤ 3 → simplex sub d o.number o.shape ≡ simplex big d o.number o.shape
  unfolding simplex
  simplex_at zero o i p h = refl
  simplex_at (suc d) o i p h =
      ap₂ ◌&&◌ (ap (λ (vs : List ℕ). faces_of sub d vs o.shape) (vertices-same (suc d) o i p) ∙ faces-same d (vertices (suc d) big o.number) o i p)
      (rest d p h)
    where
      rest : (d : ℕ) → o.dim ≡ suc d → suc d ≤ 3 → (ltb d 2 || share_edges sub o.shape) ≡ (ltb d 2 || share_edges big o.shape)
      rest zero q g = refl
      rest (suc zero) q g = refl
      rest (suc (suc zero)) q g = share_same o i q
      rest (suc (suc (suc d))) q g = absurd (not-suc-le-zero (le_of_suc-le-suc (le_of_suc-le-suc (le_of_suc-le-suc g))))

  pub simplex-same : (o : Entity) → In o sub → o.dim ≤ 3 → simplex sub o.dim o.number o.shape ≡ simplex big o.dim o.number o.shape
  simplex-same o i h = simplex_at o.dim o i refl h
