-- The rows of a sound image that are objects: those that are not covered. Each stands in the one part where the object is. Assumes nothing.
use Prim.Native.Nat.{ℕ, ◌+◌, ◌<◌}
use mathlib.Core.Path.{◌≡◌, sym, ◌∙◌, subst}
use mathlib.Core.List.{List, []}
use lib.ListN.{length, get_or}
use lib.Dec.{T}
use Rattle.laws.specs.Lists.{In}
use Rattle.laws.proofs.Tests.{eq-eqb}
use Rattle.paper.specs.Image.{row_at}
use Rattle.paper.specs.Mesh.{name, ent_of, parts_of, mesh_of, is_object}
use Rattle.paper.specs.Outcome.{accepted}
use Rattle.paper.specs.Sound.{name_of_row, sound_of}
use Rattle.paper.specs.Placement.{objects, place_in}
use Rattle.index.specs.Index.{set_in}
use Rattle.residence.specs.Tables.{Covers}
use Rattle.field.proofs.Reading.{bytes_all}
use Rattle.demands.proofs.Mesh.Spread.{in_objects}
use Rattle.demands.proofs.Sound.Facts.{Sound, sound_inv}
use Rattle.demands.proofs.Sound.Rows.{ent, in_part_lem}
use Rattle.demands.proofs.Sound.ToFit.{sound_fit}
use Rattle.demands.proofs.Fit.ToMesh.{in_mesh, object_found}
use Rattle.demands.proofs.ForCode.Marks.{row_is_object}
use Rattle.moves.proofs.OpenRows.{row_open}

-- the image of such tables is sound
pub is_sound : (b : List ℕ) → sound_of b ≡ accepted (set_in b) → ((i : ℕ) → get_or b i 0 < 256) → Sound (set_in b)
is_sound b sound bytes = (sound_inv b (set_in b) (bytes_all b bytes) sound).0

module _ {b starts table : List ℕ} (f : Sound (set_in b)) (covers : Covers b starts table) (p s : ℕ) (h : s < length (get_or (set_in b) p []))
    (o : get_or table (get_or starts p 0 + s) 0 ≡ 0) where
  pub open_object : T (is_object (mesh_of (parts_of (set_in b))) (name (ent (set_in b) p s)))
  open_object = subst T (row_open f.copied covers p s h ∙ sym (row_is_object (set_in b) f p s h)) (eq-eqb (get_or table (get_or starts p 0 + s) 0) 0 o)

  pub open_in : In (ent (set_in b) p s) (objects (mesh_of (parts_of (set_in b))))
  open_in =
      let S = set_in b in
      in_objects (mesh_of (parts_of S)) (ent S p s) (in_mesh (parts_of S) (sound_fit S f) p (ent S p s) (in_part_lem S p s h)) open_object

  -- an object is in the part of its row
  pub open_place : place_in (parts_of (set_in b)) (name_of_row (row_at (set_in b) p s)) ≡ p
  unfolding row_at ent_of
  open_place = let S = set_in b in object_found (parts_of S) (sound_fit S f) p (ent S p s) (in_part_lem S p s h) open_object
