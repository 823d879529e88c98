-- Nothing lost, nothing twice: after an accepted migration every entity of the whole mesh is in some part, nothing else is in any, a part
-- has an entity in one slot, and a partition object is in exactly one part.
-- Assumes nothing.
use Prim.Native.Nat.{ℕ, ◌<◌}
use mathlib.Core.Path.{◌≡◌, sym, ap, ◌∙◌, subst}
use mathlib.Core.List.{List, []}
use lib.ListN.{length, get_or}
use lib.Dec.{T}
use lib.Pow.{are_bytes}
use Rattle.laws.specs.Lists.{In}
use Rattle.paper.specs.Outcome.{accepted}
use Rattle.paper.specs.Image.{Set}
use Rattle.paper.specs.Mesh.{Entity, name, is_object, slot_in, parts_of}
use Rattle.paper.specs.Move.{Migrated, migrate_of}
use Rattle.demands.proofs.Fit.Record.{Fit}
use Rattle.demands.proofs.Fit.ToMesh.{in_mesh, mesh_in, object_found}
use Rattle.demands.proofs.Sound.Facts.{sound_inv}
use Rattle.demands.proofs.Sound.Rows.{ent, parts_count, slot_is}
use Rattle.demands.proofs.Theorems.Statements.{Accepts, mesh}
use Rattle.demands.proofs.Results.Accepted.{image_fit}
use Rattle.demands.proofs.Results.Lands.{after}
use Rattle.demands.proofs.Theorems.SameBytes.{same_bytes}

-- of a set S' and a mesh es
pub record Whole (es : List Entity) (S' : Set) : Type 0 where
  -- every entity of the mesh is in some part, and nothing else is in any
  pub none_lost : (e : Entity) → In e es → (p : ℕ) × (p < length S') × In e (get_or (parts_of S') p [])
  pub none_made : (p : ℕ) (e : Entity) → In e (get_or (parts_of S') p []) → In e es
  -- two rows of a part that have one entity are one row
  pub one-row : (p s t : ℕ) → s < length (get_or S' p []) → t < length (get_or S' p []) → name (ent S' p s) ≡ name (ent S' p t) → s ≡ t
  -- an object is in exactly one part
  pub one-part : (e : Entity) → In e es → T (is_object es (name e)) → (p : ℕ) × (p < length S') × In e (get_or (parts_of S') p []) × ((q : ℕ) → In e (get_or (parts_of S') q []) → q ≡ p)

-- an accepted image is whole
pub image_whole : (b : List ℕ) (S : Set) → T (are_bytes b) → Accepts b S → Whole (mesh S) S
image_whole b S y a =
    let F : Fit (parts_of S) = image_fit b S y a in
    let n = parts_count S in
    let c = (sound_inv b S y a).0.copied in
    let lost : (e : Entity) → In e (mesh S) → (p : ℕ) × (p < length S) × In e (get_or (parts_of S) p []) = λ e i.
    let w = mesh_in (parts_of S) F e i in (w.0, subst (λ (k : ℕ). w.0 < k) n w.1, w.2) in
    record {
      none_lost = lost;
      none_made = in_mesh (parts_of S) F;
      one-row = λ p s t h g e. sym (slot_is S c p s h) ∙ ap (slot_in (get_or (parts_of S) p [])) e ∙ slot_is S c p t g;
      one-part = λ e i t.
          let w = lost e i in (w.0, w.1, w.2, λ q j. sym (object_found (parts_of S) F q e j t) ∙ object_found (parts_of S) F w.0 e w.2 t);
    }

-- and holds the same mesh after an accepted migration
pub nothing_lost : (b : List ℕ) (S : Set) (l : List ℕ) (out work : ℕ) (m : Migrated) (S' : Set) → T (are_bytes b) → Accepts b S
    → migrate_of b l out work ≡ accepted m → Accepts m.image S' → Whole (mesh S) S'
nothing_lost b S l out work m S' y a e a' =
    let s = (after b S l out work m y a e).now in
    let is : mesh S' ≡ mesh S = ap mesh (same_bytes m.image S' s.set a' s.accepts) ∙ s.whole in
    subst (λ (es : List Entity). Whole es S') is (image_whole m.image S' s.is_bytes a')
