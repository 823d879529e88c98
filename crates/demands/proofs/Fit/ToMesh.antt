-- Fit to mesh: parts that fit are the spread of their mesh, each object where it is found, and the mesh fits.
-- Assumes nothing.
use Prim.Native.Nat.{ℕ, ◌<◌}
use mathlib.Core.Path.{◌≡◌, sym, subst}
use mathlib.Core.Bool.{Bool}
use mathlib.Core.Logic.{◌⊎◌}
use mathlib.Core.List.{List, [], map}
use lib.ListN.{length, get_or}
use lib.Seq.{ext_get_or}
use lib.Dec.{T, ltb, lt→ltb, le→leb}
use Rattle.laws.specs.Lists.{In, every, flat, ascending, member}
use Rattle.paper.specs.Mesh.{Entity, Parts, name, bounds, is_object, mesh_of}
use Rattle.paper.specs.Placement.{objects, closures, spread, place_in, places_of, ent_fits, mesh_fits, WellPlaced}
use Rattle.laws.proofs.Tests.{both}
use Rattle.laws.proofs.Keyed.{ascending_ext, ascends_uniq, keep-ascends}
use Rattle.laws.proofs.Members.{in_flat, flat_in, in_every, map_in, part_lt}
use Rattle.demands.proofs.Entities.Names.{Uniq, in_holds, object_same}
use Rattle.demands.proofs.Entities.Sorted.{sort_in, in_sort, mesh-ascends}
use Rattle.demands.proofs.Entities.Closed.{Closed}
use Rattle.demands.proofs.Entities.Fits.{EntOk, fits_of, fits_closed, ok_up}
use Rattle.demands.proofs.Entities.Closures.{closure-part, in_closure}
use Rattle.demands.proofs.Mesh.Spread.{Under, objects_in_lem, spread-length, spread-part, spread_in, in_spread, place_found}
use Rattle.demands.proofs.Fit.Record.{Fit}
use Rattle.demands.proofs.Fit.Held.{flat_uniq, in_held, part_closed, part_uniq}

module _ (ps : Parts) (F : Fit ps) where
  pub in_mesh : (p : ℕ) (e : Entity) → In e (get_or ps p []) → In e (mesh_of ps)
  unfolding mesh_of
  in_mesh p e i = in_sort (flat ps) (flat_uniq ps F) e (in_flat ps p e i)

  pub mesh_in : (e : Entity) → In e (mesh_of ps) → (p : ℕ) × (p < length ps) × In e (get_or ps p [])
  unfolding mesh_of
  mesh_in e i = flat_in ps e (sort_in (flat ps) e i)

  mesh_uniq : Uniq (mesh_of ps)
  mesh_uniq = ascends_uniq name (mesh_of ps) (mesh-ascends ps)

  mesh_ok : (e : Entity) → In e (mesh_of ps) → EntOk (mesh_of ps) e
  mesh_ok e i =
      let w = mesh_in e i in
      ok_up (get_or ps w.0 []) (mesh_of ps) (part_closed ps F w.0) (part_uniq ps F w.0) mesh_uniq (in_mesh w.0) e w.2 (F.fits w.0 e w.2)

  mesh_closed : Closed (mesh_of ps)
  mesh_closed = fits_closed (mesh_of ps) mesh_ok

  pub mesh_object : (k : ℕ) → is_object (flat ps) k ≡ is_object (mesh_of ps) k
  mesh_object k =
      object_same (flat ps) (mesh_of ps) k (λ e i. let w = flat_in ps e i in in_mesh w.0 e w.2) (λ e i. let w = mesh_in e i in in_flat ps w.0 e w.2)

  pub found : (p : ℕ) (e : Entity) → p < length ps → In e (get_or ps p []) → (place_in ps (name e) < length ps) × In e (get_or ps (place_in ps (name e)) [])
  found p e h i =
      let w = place_found ps p (name e) h (in_holds (get_or ps p []) e i) in (w.0, in_held ps F p (place_in ps (name e)) e i w.1)

  -- an object is found where it is
  pub object_found : (p : ℕ) (e : Entity) → In e (get_or ps p []) → T (is_object (mesh_of ps) (name e)) → place_in ps (name e) ≡ p
  object_found p e i t =
      let h = part_lt ps p e i in
      F.once (place_in ps (name e)) p e (found p e h i).1 i (subst T (sym (mesh_object (name e))) t)

  part_resides : (p : ℕ) (e : Entity) → In e (get_or ps p []) → T (is_object (mesh_of ps) (name e)) ⊎ ((f : Entity) × In f (get_or ps p []) × T (bounds (name e) f))
  part_resides p e i = subst (λ (b : Bool). T b ⊎ ((f : Entity) × In f (get_or ps p []) × T (bounds (name e) f))) (mesh_object (name e)) (F.resides p e i)

  -- a part holds the closures of its objects
  under : (p : ℕ) (e : Entity) → In e (get_or ps p []) → Under (mesh_of ps) (place_in ps) p (name e)
  under p e i =
      let r = in_closure (mesh_of ps) mesh_closed mesh_uniq (get_or ps p []) (in_mesh p) (λ f j. (F.fits p f j).dim) (part_resides p) e i in
      record { top = r.0; in_mesh = in_mesh p r.0 r.1; object = r.2; placed = object_found p r.0 r.1 r.2; covers = r.3 }

  -- and no more
  no_more : (p : ℕ) (e : Entity) → p < length ps → In e (mesh_of ps) → Under (mesh_of ps) (place_in ps) p (name e) → In e (get_or ps p [])
  no_more p e h i u =
      let o = u.top in
      let w = mesh_in o u.in_mesh in
      let j : In o (get_or ps p []) = subst (λ (q : ℕ). In o (get_or ps q [])) u.placed (found w.0 o w.1 w.2).1 in
      let v = mesh_in e i in
      in_held ps F v.0 p e v.2
      (closure-part (mesh_of ps) mesh_closed mesh_uniq (get_or ps p []) (part_closed ps F p) (in_mesh p) o (name e) j u.covers)

  pub is_spread : ps ≡ spread (length ps) (mesh_of ps) (place_in ps)
  is_spread =
      ext_get_or [] ps (spread (length ps) (mesh_of ps) (place_in ps)) (sym (spread-length (length ps) (mesh_of ps) (place_in ps))) (λ p h.
      ascending_ext name (get_or ps p []) (get_or (spread (length ps) (mesh_of ps) (place_in ps)) p []) (F.ascends p)
      (subst (λ (l : List Entity). T (ascending (map name l))) (sym (spread-part (length ps) (mesh_of ps) (place_in ps) p h))
      (keep-ascends name (λ e. member (name e) (closures (mesh_of ps) (place_in ps) p)) (mesh_of ps) (mesh-ascends ps)))
      (λ e i. in_spread (length ps) (mesh_of ps) (place_in ps) p e h (in_mesh p e i) (under p e i))
      (λ e i. let w = spread_in (length ps) (mesh_of ps) (place_in ps) p e i in no_more p e h w.1 w.2))

  pub well_placed : WellPlaced (length ps) (mesh_of ps) (place_in ps)
  unfolding mesh_fits places_of
  well_placed =
      record {
        some_part = lt→ltb 0 (length ps) F.some_part;
        few_parts = le→leb (length ps) 64 F.few_parts;
        mesh = both (ascending (map name (mesh_of ps))) (every (ent_fits (mesh_of ps)) (mesh_of ps)) (mesh-ascends ps)
            (in_every (ent_fits (mesh_of ps)) (mesh_of ps) (λ e i. fits_of (mesh_of ps) e (mesh_ok e i)));
        placed = in_every (λ q. ltb q (length ps)) (map (λ e. place_in ps (name e)) (objects (mesh_of ps))) (λ q i.
            let w = map_in (λ e. place_in ps (name e)) (objects (mesh_of ps)) q i in
            let o = objects_in_lem (mesh_of ps) w.0 w.1 in
            let v = mesh_in w.0 o.0 in
            subst (λ (z : ℕ). T (ltb z (length ps))) (sym w.2) (lt→ltb (place_in ps (name w.0)) (length ps) (found v.0 w.0 v.1 v.2).0));
      }
