-- The three theorems about the canonical image, as types: an accepted image is the image of its mesh and placement (T1), every mesh and
-- placement have an accepted image where it is not too long (T2), and it holds them (T3).
-- Assumes nothing.
use Prim.Native.Nat.{ℕ, ◌≤◌}
use mathlib.Core.Path.{◌≡◌}
use mathlib.Core.List.{List, [], map}
use lib.ListN.{length, get_or}
use lib.Dec.{T}
use lib.Pow.{are_bytes}
use Rattle.laws.specs.Lists.{In, ascending}
use Rattle.paper.specs.Outcome.{accepted}
use Rattle.paper.specs.Image.{Set, image_of}
use Rattle.paper.specs.Mesh.{Entity, Parts, name, parts_of, mesh_of}
use Rattle.paper.specs.Sound.{sound_of, max_image}
use Rattle.paper.specs.Placement.{Placement, spread, rows_for, place_in, places_of, image_for, WellPlaced}

abbrev pub Accepts : List ℕ → Set → Type 0
Accepts b S = sound_of b ≡ accepted S

abbrev pub mesh : Set → List Entity
mesh S = mesh_of (parts_of S)

abbrev pub places : Set → Placement
places S = place_in (parts_of S)

-- e is in part p, and in no other
abbrev pub OnlyIn : Parts → ℕ → Entity → Type 0
OnlyIn ps p e = In e (get_or ps p []) × ((q : ℕ) → In e (get_or ps q []) → q ≡ p)

-- one exactly where the other
abbrev pub Iff : Type 0 → Type 0 → Type 0
Iff A B = (A → B) × (B → A)

-- T1: what an accepted image is
pub record Canonical (b : List ℕ) (S : Set) : Type 0 where
  pub bytes : b ≡ image_of (rows_for (parts_of S))
  pub ascends : (p : ℕ) → T (ascending (map name (get_or (parts_of S) p [])))
  pub parts : parts_of S ≡ spread (length S) (mesh S) (places S)
  pub fits : WellPlaced (length S) (mesh S) (places S)

abbrev pub T1 : Type 0
T1 = (b : List ℕ) (S : Set) → T (are_bytes b) → Accepts b S → Canonical b S

-- T2: a mesh and a placement have an accepted image, where it is not too long
abbrev pub T2 : Type 0
T2 =
    (n : ℕ) (es : List Entity) (place : Placement) → WellPlaced n es place → length (image_for n es place) ≤ max_image
    → Accepts (image_for n es place) (rows_for (spread n es place))

-- T3: and it holds them, where it is not too long: a slot has 32 bits
pub record Holds (n : ℕ) (es : List Entity) (place : Placement) : Type 0 where
  pub bytes : T (are_bytes (image_for n es place))
  pub count : length (rows_for (spread n es place)) ≡ n
  pub parts : parts_of (rows_for (spread n es place)) ≡ spread n es place
  pub mesh : mesh_of (spread n es place) ≡ es
  pub places : places_of es (place_in (spread n es place)) ≡ places_of es place

abbrev pub T3 : Type 0
T3 = (n : ℕ) (es : List Entity) (place : Placement) → WellPlaced n es place → length (image_for n es place) ≤ max_image → Holds n es place
