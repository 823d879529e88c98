-- Mesh to Fit: a mesh spreads into parts that fit, which hold the mesh and have its objects where they were placed.
-- Assumes nothing.
use Prim.Native.Nat.{ℕ, ◌<◌, ◌≤◌}
use mathlib.Core.Path.{◌≡◌, refl, sym, ap, ◌∙◌, subst}
use mathlib.Core.Logic.{◌⊎◌, inl, inr}
use mathlib.Core.List.{List, [], map}
use lib.ListN.{get_or, get_or-eq_default}
use lib.Dec.{T, ltb, ltb→lt, leb→le}
use Rattle.laws.specs.Lists.{In, every, flat, ascending, member}
use Rattle.paper.specs.Mesh.{Entity, name_of, name, bounds, is_object, holds, sort_ents, mesh_of}
use Rattle.paper.specs.Placement.{Placement, objects, closures, spread, place_in, places_of, ent_fits, mesh_fits, WellPlaced}
use Rattle.laws.proofs.Tests.{split2, decide}
use Rattle.laws.proofs.Keyed.{ascending_ext, ascends_uniq, keep-ascends}
use Rattle.laws.proofs.Members.{in_flat, flat_in, every_in, in_map}
use Rattle.laws.proofs.Agree.{map_same}
use Rattle.demands.proofs.Entities.Names.{Uniq, holds_in, in_holds, in_bounds, object_same, object_or, not_object}
use Rattle.demands.proofs.Entities.Sorted.{sort_in, in_sort, sort_ascends}
use Rattle.demands.proofs.Entities.Closed.{Closed}
use Rattle.demands.proofs.Entities.Fits.{EntOk, ok_of, fits_closed, ok_down}
use Rattle.demands.proofs.Entities.Closures.{closure_of, closure_down, closure_top, in_closure}
use Rattle.demands.proofs.Mesh.Spread.{Under, objects_in_lem, in_objects, spread-length, spread-part, spread_in, in_spread, place_found}
use Rattle.demands.proofs.Fit.Record.{Fit}
use mathlib.Core.Bool.{not}
use lib.Dec.{nltb→le}
use Rattle.demands.proofs.Fit.Held.{flat_uniq}

module _ (n : ℕ) (es : List Entity) (place : Placement) (W : WellPlaced n es place) where
  pub names_ascend : T (ascending (map name es))
  unfolding mesh_fits
  names_ascend = (split2 (ascending (map name es)) (every (ent_fits es) es) W.mesh).0

  pub ent_fits_lem : (e : Entity) → In e es → EntOk es e
  unfolding mesh_fits
  ent_fits_lem e i = ok_of es e (every_in (ent_fits es) es (split2 (ascending (map name es)) (every (ent_fits es) es) W.mesh).1 e i)

  uniq : Uniq es
  uniq = ascends_uniq name es names_ascend

  closed : Closed es
  closed = fits_closed es ent_fits_lem

  placed : (o : Entity) → In o es → T (is_object es (name o)) → place (name o) < n
  unfolding places_of
  placed o i t =
      ltb→lt (place (name o)) n
      (every_in (λ q. ltb q n) (map (λ e. place (name e)) (objects es)) W.placed (place (name o)) (in_map (λ e. place (name e)) (objects es) o (in_objects es o i t)))

  -- every entity is in some part
  somewhere : (e : Entity) → In e es → (p : ℕ) × (p < n) × In e (get_or (spread n es place) p [])
  somewhere e i =
      let r = in_closure es closed uniq es (λ f j. j) (λ f j. (ent_fits_lem f j).dim) (λ f j. object_or es (name f)) e i in
      let p = place (name r.0) in
      let h = placed r.0 r.1 r.2 in
      (p, h, in_spread n es place p e h i (record { top = r.0; in_mesh = r.1; object = r.2; placed = refl; covers = r.3 }))

  inc : (p : ℕ) (e : Entity) → In e (get_or (spread n es place) p []) → In e es
  inc p e i = (spread_in n es place p e i).1

  part_ascends : (p : ℕ) → T (ascending (map name (get_or (spread n es place) p [])))
  unfolding sort_ents
  part_ascends p = go (decide (ltb p n))
    where
      go : T (ltb p n) ⊎ T (not (ltb p n)) → T (ascending (map name (get_or (spread n es place) p [])))
      go (inl h) =
          subst (λ (l : List Entity). T (ascending (map name l))) (sym (spread-part n es place p (ltb→lt p n h)))
          (keep-ascends name (λ e. member (name e) (closures es place p)) es names_ascend)
      go (inr h) =
          subst (λ (l : List Entity). T (ascending (map name l)))
          (sym (get_or-eq_default (spread n es place) [] (subst (λ (z : ℕ). z ≤ p) (sym (spread-length n es place)) (nltb→le p n h)))) (sort_ascends [])

  -- what is on the boundary of something of a part is in the part
  down : (p : ℕ) (e f : Entity) → In e (get_or (spread n es place) p []) → In f es → T (bounds (name f) e) → In f (get_or (spread n es place) p [])
  down p e f i j b =
      let w = spread_in n es place p e i in
      let u = w.2 in
      in_spread n es place p f w.0 j (record {
        top = u.top;
        in_mesh = u.in_mesh;
        object = u.object;
        placed = u.placed;
        covers = closure_down es closed uniq u.top e (name f) u.in_mesh w.1 u.covers b;
      })

  part_closed : (p : ℕ) → Closed (get_or (spread n es place) p [])
  part_closed p =
      record {
        number = λ e i. closed.number e (inc p e i);
        shape = λ e d j i q m.
            let s = closed.shape e d j (inc p e i) q m in
            let w = holds_in es (name_of d j) s.1 in
            let b : T (bounds (name w.0) e) = subst (λ (z : ℕ). T (bounds z e)) w.2 (in_bounds d j e q m) in
            (s.0, subst (λ (z : ℕ). T (holds (get_or (spread n es place) p []) z)) (sym w.2) (in_holds (get_or (spread n es place) p []) w.0 (down p e w.0 i w.1 b)));
      }

  part_fits : (p : ℕ) (e : Entity) → In e (get_or (spread n es place) p []) → EntOk (get_or (spread n es place) p []) e
  part_fits p e i =
      ok_down (get_or (spread n es place) p []) es (part_closed p) (ascends_uniq name (get_or (spread n es place) p []) (part_ascends p)) uniq (inc p) e i (ent_fits_lem e (inc p e i))

  object_is : (k : ℕ) → is_object (flat (spread n es place)) k ≡ is_object es k
  object_is k =
      object_same (flat (spread n es place)) es k (λ e i. let w = flat_in (spread n es place) e i in inc w.0 e w.2)
      (λ e i. let w = somewhere e i in in_flat (spread n es place) w.0 e w.2)

  -- an object is only in its own part
  own_part : (p : ℕ) (e : Entity) → In e (get_or (spread n es place) p []) → T (is_object es (name e)) → place (name e) ≡ p
  own_part p e i t = let w = spread_in n es place p e i in go w.2 (closure_top es closed uniq w.2.top (name e) w.2.in_mesh w.2.covers)
    where
      go : (u : Under es place p (name e)) → (name e ≡ name u.top) ⊎ ((f : Entity) × In f es × T (bounds (name e) f) × In (name f) (closure_of es u.top)) → place (name e) ≡ p
      go u (inl q) = ap place q ∙ u.placed
      go u (inr f) = absurd (not_object es (name e) f.0 f.1 f.2 t)

  resides : (p : ℕ) (e : Entity) → In e (get_or (spread n es place) p []) → T (is_object (flat (spread n es place)) (name e)) ⊎ ((f : Entity) × In f (get_or (spread n es place) p []) × T (bounds (name e) f))
  resides p e i = let w = spread_in n es place p e i in go w.0 w.2 (closure_top es closed uniq w.2.top (name e) w.2.in_mesh w.2.covers)
    where
      go : p < n → (u : Under es place p (name e)) → (name e ≡ name u.top) ⊎ ((f : Entity) × In f es × T (bounds (name e) f) × In (name f) (closure_of es u.top))
          → T (is_object (flat (spread n es place)) (name e)) ⊎ ((f : Entity) × In f (get_or (spread n es place) p []) × T (bounds (name e) f))
      go h u (inl q) = inl (subst T (sym (object_is (name e))) (subst (λ (z : ℕ). T (is_object es z)) (sym q) u.object))
      go h u (inr f) =
          inr (f.0, in_spread n es place p f.0 h f.1 (record { top = u.top; in_mesh = u.in_mesh; object = u.object; placed = u.placed; covers = f.3 }), f.2)

  pub spread_fit : Fit (spread n es place)
  spread_fit =
      record {
        some_part = subst (λ (z : ℕ). 0 < z) (sym (spread-length n es place)) (ltb→lt 0 n W.some_part);
        few_parts = subst (λ (z : ℕ). z ≤ 64) (sym (spread-length n es place)) (leb→le n 64 W.few_parts);
        ascends = part_ascends;
        agree = λ p q e f i j x. uniq e f (inc p e i) (inc q f j) x;
        fits = part_fits;
        once = λ p q e i j t. let s = subst T (object_is (name e)) t in sym (own_part p e i s) ∙ own_part q e j s;
        resides = resides;
      }

  pub spread-mesh : mesh_of (spread n es place) ≡ es
  unfolding mesh_of
  spread-mesh =
      ascending_ext name (sort_ents (flat (spread n es place))) es (sort_ascends (flat (spread n es place))) names_ascend
      (λ e i. let w = flat_in (spread n es place) e (sort_in (flat (spread n es place)) e i) in inc w.0 e w.2)
      (λ e i. let w = somewhere e i in in_sort (flat (spread n es place)) (flat_uniq (spread n es place) spread_fit) e (in_flat (spread n es place) w.0 e w.2))

  found_at : (e : Entity) → In e es → T (is_object es (name e)) → place_in (spread n es place) (name e) ≡ place (name e)
  found_at e i t =
      let ps = spread n es place in
      let w = somewhere e i in
      let f = place_found ps w.0 (name e) (subst (λ (z : ℕ). w.0 < z) (sym (spread-length n es place)) w.1) (in_holds (get_or ps w.0 []) e w.2) in
      let q = place_in ps (name e) in
      let g = holds_in (get_or ps q []) (name e) f.1 in
      let same : e ≡ g.0 = uniq e g.0 i (inc q g.0 g.1) g.2 in
      sym (own_part q e (subst (λ (x : Entity). In x (get_or ps q [])) (sym same) g.1) t)

  pub spread-places : places_of es (place_in (spread n es place)) ≡ places_of es place
  unfolding places_of
  spread-places =
      map_same (λ e. place_in (spread n es place) (name e)) (λ e. place (name e)) (objects es)
      (λ e i. let o = objects_in_lem es e i in found_at e o.0 o.1)
