-- The tables of a migration, and what each says of the paper's mesh and placement. Every function of the migration fills one of them, and
-- the writer reads them all: `Prepared` is the one record between the two. Assumes nothing: these are definitions.
use Rattle.std.specs.Prelude.{ℕ, ◌+◌, ◌≤◌, ◌<◌, ◌≡◌, List, [], length, get_or, eqb}
use Rattle.laws.specs.Lists.{keep}
use Rattle.part_set.specs.Masks.{lowest_of}
use Rattle.paper.specs.Outcome.{accepted}
use Rattle.paper.specs.Image.{Set, row_at}
use Rattle.paper.specs.Mesh.{Entity, Parts, name, no_ent, ent_of, parts_of, mesh_of, slot_in}
use Rattle.paper.specs.Sound.{max_image, name_of_row, sound_of}
use Rattle.paper.specs.Placement.{Placement, objects, spread, residence_in, place_in, places_of, image_for, WellPlaced}
use Rattle.paper.specs.Move.{moved, changes}
use Rattle.index.specs.Index.{set_in, max_rows, Indexed}

-- ---- the paper's side

-- the mesh of an image
abbrev pub mesh : List ℕ → List Entity
mesh b = mesh_of (parts_of (set_in b))

-- where each object is, and where the list l puts it
abbrev pub placed : List ℕ → Placement
placed b = place_in (parts_of (set_in b))

abbrev pub placing : List ℕ → List ℕ → Placement
placing b l = moved l (placed b)

-- the parts that this makes, and the new residence set of entity i
abbrev pub made : List ℕ → List ℕ → Parts
made b l = spread (length (set_in b)) (mesh b) (placing b l)

abbrev pub new_set : List ℕ → List ℕ → ℕ → ℕ
new_set b l i = residence_in (made b l) (name (get_or (mesh b) i no_ent))

-- how many objects go to part q
abbrev pub sent_to : List ℕ → List ℕ → ℕ → ℕ
sent_to b l q = length (keep (λ o. eqb (placing b l (name o)) q) (objects (mesh b)))

-- how many objects change their part
abbrev pub moved_count : List ℕ → List ℕ → ℕ
moved_count b l = changes (places_of (mesh b) (placed b)) (places_of (mesh b) (placing b l))

-- the new image
abbrev pub new_image : List ℕ → List ℕ → List ℕ
new_image b l = image_for (length (set_in b)) (mesh b) (placing b l)

-- ---- the tables

-- the part of each row that is an object: row s of part p is row starts p + s of the image
pub record Destined (b l starts covered dest : List ℕ) : Type 0 where
  pub room : max_rows + 1 ≤ length dest
  pub entry : (p s : ℕ) → s < length (get_or (set_in b) p []) → get_or covered (get_or starts p 0 + s) 0 ≡ 0
      → get_or dest (get_or starts p 0 + s) 0 ≡ placing b l (name_of_row (row_at (set_in b) p s))

-- how many objects each part gets
pub record Tallied (b l counts : List ℕ) : Type 0 where
  pub room : 64 ≤ length counts
  pub entry : (q : ℕ) → q < length (set_in b) → get_or counts q 0 ≡ sent_to b l q

-- the new residence set of each entity
pub record Masked (b l masks : List ℕ) : Type 0 where
  pub room : max_rows + 1 ≤ length masks
  pub entry : (i : ℕ) → i < length (mesh b) → get_or masks i 0 ≡ new_set b l i

-- entity i stands in the image as row `slot` of `part`, its lowest part
pub record LowestRow (S : Set) (starts ord : List ℕ) (i : ℕ) : Type 0 where
  pub part : ℕ
  pub slot : ℕ
  pub within : part < length S
  pub there : slot < length (get_or S part [])
  pub low : lowest_of (row_at S part slot).mask ≡ part
  pub is : get_or ord i 0 ≡ get_or starts part 0 + slot
  pub entity : ent_of (get_or S part []) (row_at S part slot) ≡ get_or (mesh_of (parts_of S)) i no_ent

-- the lowest row of each of the m entities
pub record Ordered (b starts ord : List ℕ) (m : ℕ) : Type 0 where
  pub room : max_rows + 1 ≤ length ord
  pub count : m ≡ length (mesh b)
  pub few : m ≤ max_rows
  pub row : (i : ℕ) → i < m → LowestRow (set_in b) starts ord i

-- the entity of each row
pub record Numbered (b starts ent : List ℕ) : Type 0 where
  pub room : max_rows + 1 ≤ length ent
  pub entry : (p s : ℕ) → s < length (get_or (set_in b) p []) → get_or ent (get_or starts p 0 + s) 0 ≡ slot_in (mesh b) (name_of_row (row_at (set_in b) p s))

-- ---- all of them

-- a sound image with its rows and entities: n parts, m entities
pub record Sourced (b offs starts ord : List ℕ) (n m : ℕ) : Type 0 where
  pub sound : sound_of b ≡ accepted (set_in b)
  pub indexed : Indexed b offs starts n
  pub ordered : Ordered b starts ord m

-- and all that the new image is written from
pub record Prepared (b l offs starts ord ent masks counts : List ℕ) (n m : ℕ) : Type 0 where
  pub source : Sourced b offs starts ord n m
  pub numbered : Numbered b starts ent
  pub masked : Masked b l masks
  pub tallied : Tallied b l counts
  pub well : WellPlaced n (mesh b) (placing b l)
  pub small : length (new_image b l) ≤ max_image
