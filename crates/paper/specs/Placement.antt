-- Placement and the canonical image (document 01, "The move"): a set follows from three things, how many parts, which mesh, and where each
-- partition object is. First the entities of each part, by closure; then from these alone the residence sets, owners, slots and remote
-- slots, and the bytes. Assumes nothing.
use Rattle.std.specs.Prelude.{ℕ, zero, suc, ◌+◌, ◌-◌, ◌*◌, ◌^◌, Bool, ◌&&◌, cond, List, [], ◌∷◌, ◌++◌, map, length, get_or, replicate, T, leb, ltb, eqb}
use Rattle.paper.specs.Mesh
use Rattle.laws.specs.Lists.{every, keep, flat, ascending, up_to, member}
use Rattle.field.specs.Bytes.{bytes_of, finite}
use Rattle.part_set.specs.Masks.{parts_in, others, mask_of}
use Rattle.paper.specs.Image.{Row, Set, image_of}
use Rattle.paper.specs.Sound.{value_fitting}
use Rattle.paper.specs.Mesh.{Entity, Parts, name_of, name, closure, simplex, is_object, holds, slot_in, owner_among}

-- where each object is: its part, by its name
abbrev pub Placement : Type 0
Placement = ℕ → ℕ

-- ---- the parts that a mesh and a placement make

-- the partition objects of a mesh
unfoldable pub objects : List Entity → List Entity
objects es = keep (λ e. is_object es (name e)) es

-- the names in the closures of the objects of part p
unfoldable pub closures : List Entity → Placement → ℕ → List ℕ
closures es place p = flat (map (λ e. closure e.dim es e.number) (keep (λ e. eqb (place (name e)) p) (objects es)))

-- each part holds the closures of its objects, ordered as the mesh is
unfoldable pub spread : ℕ → List Entity → Placement → Parts
spread n es place = map (λ p. let c = closures es place p in keep (λ e. member (name e) c) es) (up_to n)

-- ---- the rows that parts make

-- the parts that hold the entity named k
unfoldable pub residence_in : Parts → ℕ → ℕ
residence_in ps k = mask_of (length ps) (λ q. holds (get_or ps q []) k)

-- 24 bytes: coordinates as bits, or slots in the part es and zeros
unfoldable pub body_in : List Entity → ℕ → List ℕ → List ℕ
body_in es zero shape = flat (map (bytes_of 8) shape)
body_in es (suc d) shape = flat (map (λ k. bytes_of 4 (slot_in es (name_of d k))) shape) ++ replicate (24 - 4 * (d + 2)) 0

unfoldable pub row_for : Parts → ℕ → Entity → Row
row_for ps p e =
    let m = residence_in ps (name e) in
    record {
      number = e.number;
      dim = e.dim;
      owner = owner_among ps (parts_in m);
      kind = e.kind;
      pad = 0;
      mask = m;
      value = e.value;
      body = body_in (get_or ps p []) e.dim e.shape;
      slots = map (λ q. slot_in (get_or ps q []) (name e)) (others m p);
    }

unfoldable pub rows_for : Parts → Set
rows_for ps = map (λ p. map (row_for ps p) (get_or ps p [])) (up_to (length ps))

-- ---- back: where a set has its objects

-- the first part that holds the name
unfoldable pub place_in : Parts → Placement
place_in [] k = 0
place_in (es ∷ ps) k = cond (holds es k) 0 (suc (place_in ps k))

-- the parts of the objects of es, in their order: two placements of es are the same where these are equal
unfoldable pub places_of : List Entity → Placement → List ℕ
places_of es place = map (λ e. place (name e)) (objects es)

-- ---- the canonical image

unfoldable pub image_for : ℕ → List Entity → Placement → List ℕ
image_for n es place = image_of (rows_for (spread n es place))

-- ---- the meshes and placements that have an image

unfoldable pub shape_fits : List Entity → ℕ → List ℕ → Bool
shape_fits es zero shape = eqb (length shape) 3 && every (λ x. ltb x (2 ^ 64) && finite x) shape
shape_fits es (suc d) shape = eqb (length shape) (d + 2) && ascending shape && every (λ k. ltb k (2 ^ 32) && holds es (name_of d k)) shape

unfoldable pub ent_fits : List Entity → Entity → Bool
ent_fits es e =
    leb e.dim 3 && ltb e.number (2 ^ 32) && leb e.kind 2 && ltb e.value (2 ^ 64) && value_fitting e.kind e.value
    && shape_fits es e.dim e.shape && simplex es e.dim e.number e.shape

unfoldable pub mesh_fits : List Entity → Bool
mesh_fits es = ascending (map name es) && every (ent_fits es) es

-- a mesh that fits, in 1 to 64 parts, each object in one of them
pub record WellPlaced (n : ℕ) (es : List Entity) (place : Placement) : Type 0 where
  pub some_part : T (ltb 0 n)
  pub few_parts : T (leb n 64)
  pub mesh : T (mesh_fits es)
  pub placed : T (every (λ q. ltb q n) (places_of es place))

-- opens this module and those below it, for what is to compute
unfoldable pub computes : Unit {0}
unfolding Mesh.computes objects closures spread residence_in body_in row_for rows_for place_in places_of image_for shape_fits ent_fits mesh_fits
computes = tt
