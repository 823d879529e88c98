-- Where the entities of fitting parts are: an object where it is placed and nowhere else, any other entity where something that it bounds is.
-- Assumes nothing.
use Prim.Native.Nat.{ℕ}
use mathlib.Core.Path.{◌≡◌, sym, ◌∙◌, subst}
use mathlib.Core.Logic.{◌⊎◌, inl, inr}
use mathlib.Core.List.{[]}
use lib.ListN.{get_or}
use lib.Dec.{T}
use Rattle.laws.specs.Lists.{In, flat}
use Rattle.paper.specs.Mesh.{Entity, Parts, name, bounds, is_object, mesh_of}
use Rattle.paper.specs.Placement.{Placement, objects, place_in, places_of}
use Rattle.laws.proofs.Agree.{map_at}
use Rattle.demands.proofs.Entities.Closed.{closed_down}
use Rattle.demands.proofs.Mesh.Spread.{in_objects}
use Rattle.demands.proofs.Fit.Record.{Fit}
use Rattle.demands.proofs.Fit.Held.{in_held, part_closed}
use Rattle.demands.proofs.Fit.ToMesh.{mesh_in, found, object_found, mesh_object}

module _ (ps : Parts) (F : Fit ps) where
  -- what is on the boundary of something of a part is in the part
  pub bounded_in : (p : ℕ) (e f : Entity) → In e (mesh_of ps) → In f (get_or ps p []) → T (bounds (name e) f) → In e (get_or ps p [])
  bounded_in p e f i j b =
      let v = mesh_in ps F e i in
      in_held ps F v.0 p e v.2 (closed_down (get_or ps p []) (part_closed ps F p) (name e) f j b)

  pub lower_in : (p : ℕ) (e : Entity) → (T (is_object (mesh_of ps) (name e)) → ⊥) → In e (get_or ps p []) → (f : Entity) × In f (get_or ps p []) × T (bounds (name e) f)
  lower_in p e n i = go (F.resides p e i)
    where
      go : T (is_object (flat ps) (name e)) ⊎ ((f : Entity) × In f (get_or ps p []) × T (bounds (name e) f)) → (f : Entity) × In f (get_or ps p []) × T (bounds (name e) f)
      go (inl t) = absurd (n (subst T (mesh_object ps F (name e)) t))
      go (inr f) = f

  -- an object is in the part where it is placed, and in no other
  pub object_in : (place : Placement) → places_of (mesh_of ps) (place_in ps) ≡ places_of (mesh_of ps) place → (e : Entity) → In e (mesh_of ps) → T (is_object (mesh_of ps) (name e))
      → In e (get_or ps (place (name e)) []) × ((p : ℕ) → In e (get_or ps p []) → p ≡ place (name e))
  unfolding places_of
  object_in place h e i t =
      let is = map_at (λ e. place_in ps (name e)) (λ e. place (name e)) (objects (mesh_of ps)) h e (in_objects (mesh_of ps) e i t) in
      let w = mesh_in ps F e i in
      (subst (λ (p : ℕ). In e (get_or ps p [])) is (found ps F w.0 e w.1 w.2).1, λ p j. sym (object_found ps F p e j t) ∙ is)
