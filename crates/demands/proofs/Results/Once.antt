-- Summed once: over an accepted image, each part that counts its objects, or what it owns, counts nothing twice and leaves nothing out; so
-- no accepted migration changes such a sum.
-- Assumes nothing.
use Prim.Native.Nat.{ℕ}
use native.Mathlib.Omega.{arith}
use mathlib.Core.Path.{◌≡◌, refl, sym, ap, ◌∙◌, subst}
use mathlib.Core.List.{List, []}
use lib.ListN.{get_or}
use lib.Dec.{T, eqb, eqb→eq}
use lib.Pow.{are_bytes}
use Rattle.laws.specs.Lists.{In, flat}
use Rattle.part_set.specs.Masks.{parts_in}
use Rattle.paper.specs.Outcome.{accepted}
use Rattle.paper.specs.Image.{Set}
use Rattle.paper.specs.Mesh.{Entity, Parts, name, is_object, owner_among, parts_of, mesh_of}
use Rattle.paper.specs.Placement.{objects, residence_in}
use Rattle.paper.specs.Move.{Migrated, migrate_of}
use Rattle.demands.specs.Sums.{sum_of, over_objects, over_owned}
use Rattle.laws.proofs.Tests.{eq-eqb}
use Rattle.laws.proofs.Members.{part_lt}
use Rattle.laws.proofs.Keyed.{keep-ascends}
use Rattle.part_set.proofs.MaskParts.{parts_in_in, in_parts_in}
use Rattle.demands.proofs.Entities.Sorted.{mesh-ascends}
use Rattle.demands.proofs.Entities.Owners.{owner_in}
use Rattle.demands.proofs.Mesh.Spread.{objects_in_lem, in_objects}
use Rattle.demands.proofs.Fit.Record.{Fit}
use Rattle.demands.proofs.Fit.Held.{in_held}
use Rattle.demands.proofs.Fit.Rows.{residence-holds, holds-residence}
use Rattle.demands.proofs.Fit.ToMesh.{in_mesh, mesh_in, mesh_object}
use Rattle.demands.proofs.Theorems.Statements.{Accepts, mesh}
use Rattle.demands.proofs.Theorems.SameBytes.{same_bytes}
use Rattle.demands.proofs.Results.Accepted.{image_fit}
use Rattle.demands.proofs.Results.Lands.{after}
use Rattle.demands.proofs.Results.Sums.{sum_once}

module _ (w : Entity → ℕ) (ps : Parts) (F : Fit ps) where
  objects_once : over_objects w ps ≡ sum_of w (objects (mesh_of ps))
  unfolding over_objects objects
  objects_once =
      sum_once w (λ p e. is_object (flat ps) (name e)) ps (objects (mesh_of ps)) (keep-ascends name (λ e. is_object (mesh_of ps) (name e)) (mesh_of ps) (mesh-ascends ps))
      F.ascends F.agree (λ p q e f i s j r z.
      F.once p q e i (subst (λ (x : Entity). In x (get_or ps q [])) (sym (F.agree p q e f i j z)) j) s)
      (λ p e i s. in_objects (mesh_of ps) e (in_mesh ps F p e i) (subst T (mesh_object ps F (name e)) s))
      (λ e i. let o = objects_in_lem (mesh_of ps) e i in
      let v = mesh_in ps F e o.0 in (v.0, v.2, subst T (sym (mesh_object ps F (name e))) o.1))

  -- the owner of an entity holds it
  owner_holds : (p : ℕ) (e : Entity) → In e (get_or ps p []) → In e (get_or ps (owner_among ps (parts_in (residence_in ps (name e)))) [])
  owner_holds p e i =
      let m = residence_in ps (name e) in
      let few = F.few_parts in
      let lt = part_lt ps p e i in
      let o = parts_in_in m (owner_among ps (parts_in m)) (owner_in ps (parts_in m) p (in_parts_in m p (omega arith) (holds-residence ps p e i))) in
      in_held ps F p (owner_among ps (parts_in m)) e i (residence-holds ps (name e) (owner_among ps (parts_in m)) o.1).1

  owned_once : over_owned w ps ≡ sum_of w (mesh_of ps)
  unfolding over_owned
  owned_once =
      let own : Entity → ℕ = λ e. owner_among ps (parts_in (residence_in ps (name e))) in
      sum_once w (λ p e. eqb (own e) p) ps (mesh_of ps) (mesh-ascends ps) F.ascends F.agree (λ p q e f i s j r z.
      sym (eqb→eq (own e) p s) ∙ ap (λ (k : ℕ). owner_among ps (parts_in (residence_in ps k))) z ∙ eqb→eq (own f) q r)
      (λ p e i s. in_mesh ps F p e i) (λ e i. let v = mesh_in ps F e i in (own e, owner_holds v.0 e v.2, eq-eqb (own e) (own e) refl))

-- ---- of an accepted image

module _ (w : Entity → ℕ) where
  pub objects_summed_once : (b : List ℕ) (S : Set) → T (are_bytes b) → Accepts b S → over_objects w (parts_of S) ≡ sum_of w (objects (mesh S))
  objects_summed_once b S y a = objects_once w (parts_of S) (image_fit b S y a)

  pub owned_summed_once : (b : List ℕ) (S : Set) → T (are_bytes b) → Accepts b S → over_owned w (parts_of S) ≡ sum_of w (mesh S)
  owned_summed_once b S y a = owned_once w (parts_of S) (image_fit b S y a)

  -- ---- and after an accepted migration what it was

  pub same_sums : (b : List ℕ) (S : Set) (l : List ℕ) (out work : ℕ) (m : Migrated) (S' : Set) → T (are_bytes b) → Accepts b S
      → migrate_of b l out work ≡ accepted m → Accepts m.image S'
      → (over_objects w (parts_of S') ≡ over_objects w (parts_of S)) × (over_owned w (parts_of S') ≡ over_owned w (parts_of S))
  same_sums b S l out work m S' y a e a' =
      let s = (after b S l out work m y a e).now in
      let is : mesh S' ≡ mesh S = ap mesh (same_bytes m.image S' s.set a' s.accepts) ∙ s.whole in (
        objects_summed_once m.image S' s.is_bytes a' ∙ ap (λ (es : List Entity). sum_of w (objects es)) is ∙ sym (objects_summed_once b S y a),
        owned_summed_once m.image S' s.is_bytes a' ∙ ap (sum_of w) is ∙ sym (owned_summed_once b S y a),
      )
