-- The closures of the entities of a mesh that is closed under boundaries, and in which a name stands for one entity.
-- Assumes nothing.
use Prim.Native.Nat.{ℕ, zero, suc, ◌+◌, ◌≤◌}
use native.Mathlib.Omega.{arith}
use mathlib.Core.Path.{◌≡◌, refl, sym, ap, ◌∙◌, subst}
use mathlib.Core.Logic.{◌⊎◌, inl, inr}
use mathlib.Core.List.{List}
use lib.Dec.{T}
use Rattle.laws.specs.Lists.{In}
use Rattle.paper.specs.Mesh.{Entity, name_of, name, bounds, is_object, holds, shape_in, closure}
use Rattle.demands.proofs.Entities.Names.{Uniq, in_holds, bounds_in, in_bounds, vertex-bounds, name_dim}
use Rattle.laws.proofs.Members.{flat_map_in, in_flat_map}
use Rattle.demands.proofs.Entities.Closed.{Closed, face_ent, look}

abbrev pub closure_of : List Entity → Entity → List ℕ
closure_of es o = closure o.dim es o.number

module _ (es : List Entity) (c : Closed es) (u : Uniq es) where
  self_at : (d : ℕ) (o : Entity) → o.dim ≡ d → In (name o) (closure d es o.number)
  unfolding closure
  self_at zero o p = inl (ap (λ (z : ℕ). name_of z o.number) p)
  self_at (suc d) o p = inl (ap (λ (z : ℕ). name_of z o.number) p)

  closure_self : (o : Entity) → In (name o) (closure_of es o)
  closure_self o = self_at o.dim o refl

  -- what is in the closure of an entity above the vertices is itself or in the closure of a face
  step_in : (d : ℕ) (o : Entity) → In o es → o.dim ≡ suc d → (k : ℕ) → In k (closure (suc d) es o.number)
      → (k ≡ name o) ⊎ ((f : Entity) × In f es × (f.dim ≡ d) × In f.number o.shape × In k (closure d es f.number))
  unfolding closure
  step_in d o i p k (inl q) = inl (q ∙ ap (λ (z : ℕ). name_of z o.number) (sym p))
  step_in d o i p k (inr m) =
      let w = flat_map_in (closure d es) (shape_in es (suc d) o.number) k m in
      let j = subst (λ (l : List ℕ). In w.0 l) (look es u (suc d) o i p) w.1 in
      let f = face_ent es c o d w.0 i p j in
      inr (f.0, f.1, f.2, subst (λ (z : ℕ). In z o.shape) (sym f.3) j, subst (λ (z : ℕ). In k (closure d es z)) (sym f.3) w.2)

  in_step : (d : ℕ) (o : Entity) → In o es → o.dim ≡ suc d → (k j : ℕ) → In j o.shape → In k (closure d es j) → In k (closure (suc d) es o.number)
  unfolding closure
  in_step d o i p k j m n =
      inr (in_flat_map (closure d es) (shape_in es (suc d) o.number) j k (subst (λ (l : List ℕ). In j l) (sym (look es u (suc d) o i p)) m) n)

  vertex_in : (o : Entity) → o.dim ≡ zero → (k : ℕ) → In k (closure zero es o.number) → k ≡ name o
  unfolding closure
  vertex_in o p k (inl q) = q ∙ ap (λ (z : ℕ). name_of z o.number) (sym p)
  vertex_in o p k (inr i) = absurd i

  -- the boundary of what is in a closure is in it
  down_at : (d : ℕ) (o : Entity) → In o es → o.dim ≡ d → (f : Entity) → In f es → In (name f) (closure d es o.number) → (k : ℕ) → T (bounds k f)
      → In k (closure d es o.number)
  down_at zero o i p f j m k b =
      let e : f ≡ o = u f o j i (vertex_in o p (name f) m) in absurd (vertex-bounds k f (ap (λ (x : Entity). x.dim) e ∙ p) b)
  down_at (suc d) o i p f j m k b = go (step_in d o i p (name f) m) (down_at d)
    where
      go : (name f ≡ name o) ⊎ ((g : Entity) × In g es × (g.dim ≡ d) × In g.number o.shape × In (name f) (closure d es g.number))
          → ((g : Entity) → In g es → g.dim ≡ d → (f : Entity) → In f es → In (name f) (closure d es g.number) → (k : ℕ) → T (bounds k f) → In k (closure d es g.number))
          → In k (closure (suc d) es o.number)
      go (inl q) ih =
          let e : f ≡ o = u f o j i q in
          let w = bounds_in d k o p (subst (λ (x : Entity). T (bounds k x)) e b) in
          let g = face_ent es c o d w.0 i p w.1 in
          let nm : name g.0 ≡ k = ap (λ (z : ℕ). name_of z g.0.number) g.2 ∙ ap (name_of d) g.3 ∙ sym w.2 in
          in_step d o i p k g.0.number (subst (λ (z : ℕ). In z o.shape) (sym g.3) w.1)
          (subst (λ (z : ℕ). In z (closure d es g.0.number)) nm (self_at d g.0 g.2))
      go (inr g) ih = in_step d o i p k g.0.number g.3 (ih g.0 g.1 g.2 f j g.4 k b)

  pub closure_down : (o f : Entity) (k : ℕ) → In o es → In f es → In (name f) (closure_of es o) → T (bounds k f) → In k (closure_of es o)
  closure_down o f k i j m b = down_at o.dim o i refl f j m k b

  -- what is in a closure is the entity itself, or on the boundary of something in the closure
  top_at : (d : ℕ) (o : Entity) → In o es → o.dim ≡ d → (k : ℕ) → In k (closure d es o.number)
      → (k ≡ name o) ⊎ ((f : Entity) × In f es × T (bounds k f) × In (name f) (closure d es o.number))
  top_at zero o i p k m = inl (vertex_in o p k m)
  top_at (suc d) o i p k m = go (step_in d o i p k m) (top_at d)
    where
      go : (k ≡ name o) ⊎ ((g : Entity) × In g es × (g.dim ≡ d) × In g.number o.shape × In k (closure d es g.number))
          → ((g : Entity) → In g es → g.dim ≡ d → (k : ℕ) → In k (closure d es g.number) → (k ≡ name g) ⊎ ((f : Entity) × In f es × T (bounds k f) × In (name f) (closure d es g.number)))
          → (k ≡ name o) ⊎ ((f : Entity) × In f es × T (bounds k f) × In (name f) (closure (suc d) es o.number))
      go (inl q) ih = inl q
      go (inr g) ih = more (ih g.0 g.1 g.2 k g.4)
        where
          more : (k ≡ name g.0) ⊎ ((f : Entity) × In f es × T (bounds k f) × In (name f) (closure d es g.0.number))
              → (k ≡ name o) ⊎ ((f : Entity) × In f es × T (bounds k f) × In (name f) (closure (suc d) es o.number))
          more (inl q) =
              let e : name_of d g.0.number ≡ k = ap (λ (z : ℕ). name_of z g.0.number) (sym g.2) ∙ sym q in
              inr (o, i, subst (λ (z : ℕ). T (bounds z o)) e (in_bounds d g.0.number o p g.3), self_at (suc d) o p)
          more (inr f) = inr (f.0, f.1, f.2, in_step d o i p (name f.0) g.0.number g.3 f.3)

  pub closure_top : (o : Entity) (k : ℕ) → In o es → In k (closure_of es o)
      → (k ≡ name o) ⊎ ((f : Entity) × In f es × T (bounds k f) × In (name f) (closure_of es o))
  closure_top o k i m = top_at o.dim o i refl k m

  -- a part of the mesh that is closed holds the closures of what it holds
  part_at : (part : List Entity) → Closed part → ((e : Entity) → In e part → In e es) → (d : ℕ) (o : Entity) → In o part → o.dim ≡ d → (k : ℕ)
      → In k (closure d es o.number) → T (holds part k)
  part_at part cp inc zero o i p k m = subst (λ (z : ℕ). T (holds part z)) (sym (vertex_in o p k m)) (in_holds part o i)
  part_at part cp inc (suc d) o i p k m = go (step_in d o (inc o i) p k m) (part_at part cp inc d)
    where
      go : (k ≡ name o) ⊎ ((g : Entity) × In g es × (g.dim ≡ d) × In g.number o.shape × In k (closure d es g.number))
          → ((g : Entity) → In g part → g.dim ≡ d → (k : ℕ) → In k (closure d es g.number) → T (holds part k)) → T (holds part k)
      go (inl q) ih = subst (λ (z : ℕ). T (holds part z)) (sym q) (in_holds part o i)
      go (inr g) ih =
          let f = face_ent part cp o d g.0.number i p g.3 in
          ih f.0 f.1 f.2 k (subst (λ (z : ℕ). In k (closure d es z)) (sym f.3) g.4)

  pub closure-part : (part : List Entity) → Closed part → ((e : Entity) → In e part → In e es) → (o : Entity) (k : ℕ) → In o part → In k (closure_of es o) → T (holds part k)
  closure-part part cp inc o k i m = part_at part cp inc o.dim o i refl k m

  -- where what is no object bounds something of the part, all of the part is in closures of its objects
  module _ (part : List Entity) (inc : (e : Entity) → In e part → In e es) (low : (e : Entity) → In e part → e.dim ≤ 3)
      (resides : (e : Entity) → In e part → T (is_object es (name e)) ⊎ ((f : Entity) × In f part × T (bounds (name e) f))) where
    above : (e f : Entity) → In e es → In f es → T (bounds (name e) f) → f.dim ≡ suc e.dim
    above e f i j b = go f.dim refl
      where
        go : (d : ℕ) → f.dim ≡ d → f.dim ≡ suc e.dim
        go zero p = absurd (vertex-bounds (name e) f p b)
        go (suc d) p =
            let w = bounds_in d (name e) f p b in
            let h = c.shape f d w.0 j p w.1 in
            let same : e.dim ≡ d = name_dim e.dim e.number d w.0 (c.number e i) h.0 w.2 in
            p ∙ ap suc (sym same)

    in_at : (fuel : ℕ) (e : Entity) → In e part → 4 ≤ e.dim + fuel → (o : Entity) × In o part × T (is_object es (name o)) × In (name e) (closure_of es o)
    in_at zero e i h = absurd (omega (arith, low e i))
    in_at (suc fuel) e i h = go (resides e i) (in_at fuel)
      where
        go : T (is_object es (name e)) ⊎ ((f : Entity) × In f part × T (bounds (name e) f))
            → ((f : Entity) → In f part → 4 ≤ f.dim + fuel → (o : Entity) × In o part × T (is_object es (name o)) × In (name f) (closure_of es o))
            → (o : Entity) × In o part × T (is_object es (name o)) × In (name e) (closure_of es o)
        go (inl t) ih = (e, i, t, closure_self e)
        go (inr f) ih =
            let up = above e f.0 (inc e i) (inc f.0 f.1) f.2 in
            let r = ih f.0 f.1 (omega (arith, up)) in
            (r.0, r.1, r.2, closure_down r.0 f.0 (name e) (inc r.0 r.1) (inc f.0 f.1) r.3 f.2)

    pub in_closure : (e : Entity) → In e part → (o : Entity) × In o part × T (is_object es (name o)) × In (name e) (closure_of es o)
    in_closure e i = in_at 4 e i (omega arith)
