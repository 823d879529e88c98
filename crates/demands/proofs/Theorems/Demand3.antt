-- DEMAND 3: "Start from any image the checker accepts, and run any sequence of migrations, refused ones included, each starting from the last
-- accepted image. The whole mesh stays what it was: the same entities, boundaries, coordinates and values. Each partition object is in one part
-- only: the last destination an accepted migration gave it, or its first part if none named it. Each lower entity is in exactly the parts where
-- something it bounds lives. Every remote copy is returned by its twin. Two histories from one image that end with the same placement end with
-- the same bytes."
-- Each sentence is a theorem. b is an image that the checker accepts, S its set, as' any list of asks, S' the set of the last accepted image.
-- Assumes nothing.
use Prim.Native.Nat.{ℕ, ◌<◌}
use mathlib.Core.Path.{◌≡◌, sym, ap, ◌∙◌, subst}
use mathlib.Core.List.{List, [], ◌∷◌, ◌++◌}
use lib.ListN.{length, get_or}
use lib.Dec.{T}
use lib.Pow.{are_bytes}
use Rattle.laws.specs.Lists.{In}
use Rattle.part_set.specs.Masks.{others}
use Rattle.paper.specs.Outcome.{refused, accepted, Place}
use Rattle.paper.specs.Image.{Set, row_at}
use Rattle.paper.specs.Mesh.{Entity, name, bounds, is_object, parts_of}
use Rattle.paper.specs.Placement.{Placement, places_of}
use Rattle.paper.specs.Move.{entry_name, entry_part, all_entries, Migrated}
use Rattle.demands.specs.History.{Ask, answer, image_after, history, place_after, last_places}
use Rattle.demands.proofs.Sound.Rows.{Twin}
use Rattle.demands.proofs.Theorems.Statements.{Accepts, mesh, places, OnlyIn, Iff}
use Rattle.demands.proofs.Theorems.Destinations.{moved_listed, moved_unlisted}
use Rattle.demands.proofs.Theorems.Went.{went, migrate_is}
use Rattle.demands.proofs.Theorems.SameBytes.{same-places}
use Rattle.demands.proofs.Theorems.Now.{Now, begin}
use Rattle.demands.proofs.Theorems.Histories.{keeps, same_end, history_then, places_then}
use Rattle.demands.proofs.Theorems.Sentences

module _ (b : List ℕ) (S : Set) (y : T (are_bytes b)) (a : Accepts b S) where
  ends : (as' : List Ask) → Now (length S) (mesh S) (last_places b as' (places S)) (history b as')
  ends as' = keeps (length S) (mesh S) (places S) b as' (begin b S y a)

  -- the last image of a history is one that the checker accepts
  pub history_accepted : (as' : List Ask) → (S' : Set) × Accepts (history b as') S'
  history_accepted as' = ((ends as').set, (ends as').accepts)

  pub history-bytes : (as' : List Ask) → T (are_bytes (history b as'))
  history-bytes as' = (ends as').is_bytes

  module _ (as' : List Ask) (S' : Set) (a' : Accepts (history b as') S') where
    -- "The whole mesh stays what it was: the same entities, boundaries, coordinates and values", which are what an Entity has
    pub mesh_unchanged : mesh S' ≡ mesh S
    mesh_unchanged = Sentences.mesh_is (length S) (mesh S) (last_places b as' (places S)) (history b as') (ends as') S' a'

    pub part_count_unchanged : length S' ≡ length S
    part_count_unchanged = Sentences.count_is (length S) (mesh S) (last_places b as' (places S)) (history b as') (ends as') S' a'

    -- "Each partition object is in one part only: the last destination an accepted migration gave it, or its first part if none named it":
    -- `last_places` is that part; `first_part`, `last_destination`, `not_named` and `not_accepted` below say so ask by ask
    pub object_in_one_part : (o : Entity) → In o (mesh S) → T (is_object (mesh S) (name o)) → OnlyIn (parts_of S') (last_places b as' (places S) (name o)) o
    object_in_one_part = Sentences.object_only (length S) (mesh S) (last_places b as' (places S)) (history b as') (ends as') S' a'

    -- "Each lower entity is in exactly the parts where something it bounds lives"
    pub lower_entity_where_it_bounds : (f : Entity) (p : ℕ) → In f (mesh S) → (T (is_object (mesh S) (name f)) → ⊥)
        → Iff (In f (get_or (parts_of S') p [])) ((g : Entity) × In g (get_or (parts_of S') p []) × T (bounds (name f) g))
    lower_entity_where_it_bounds = Sentences.lower_where (length S) (mesh S) (last_places b as' (places S)) (history b as') (ends as') S' a'

    -- "Every remote copy is returned by its twin"
    pub copy_returned : (p s q : ℕ) → s < length (get_or S' p []) → In q (others (row_at S' p s).mask p) → Twin S' p s q
    copy_returned = Sentences.copy_agrees (history b as') S' (history-bytes as') a'

  -- "Two histories from one image that end with the same placement end with the same bytes": the placement is read from the images
  pub same_placement_same_bytes : (as₁ as₂ : List Ask) (S₁ S₂ : Set) → Accepts (history b as₁) S₁ → Accepts (history b as₂) S₂
      → places_of (mesh S) (places S₁) ≡ places_of (mesh S) (places S₂) → history b as₁ ≡ history b as₂
  same_placement_same_bytes as₁ as₂ S₁ S₂ a₁ a₂ h =
      let m₁ : mesh S₁ ≡ mesh S = mesh_unchanged as₁ S₁ a₁ in
      same-places (history b as₁) (history b as₂) S₁ S₂ (history-bytes as₁) (history-bytes as₂) a₁ a₂
      (part_count_unchanged as₁ S₁ a₁ ∙ sym (part_count_unchanged as₂ S₂ a₂)) (m₁ ∙ sym (mesh_unchanged as₂ S₂ a₂))
      (subst (λ (es : List Entity). places_of es (places S₁) ≡ places_of es (places S₂)) (sym m₁) h)

  -- or worked out from the asks
  pub same_last_places_same_bytes : (as₁ as₂ : List Ask)
      → places_of (mesh S) (last_places b as₁ (places S)) ≡ places_of (mesh S) (last_places b as₂ (places S)) → history b as₁ ≡ history b as₂
  same_last_places_same_bytes as₁ as₂ h =
      same_end (length S) (mesh S) (last_places b as₁ (places S)) (last_places b as₂ (places S)) (history b as₁) (history b as₂) (ends as₁) (ends as₂) h

  -- ---- the last accepted image, ask by ask

  pub accepted_ask : (as' : List Ask) (c : Ask) (m : Migrated) → answer (history b as') c ≡ accepted m → history b (as' ++ (c ∷ [])) ≡ m.image
  unfolding image_after
  accepted_ask as' c m e = history_then b as' c ∙ ap (image_after (history b as')) e

  pub refused_ask : (as' : List Ask) (c : Ask) (n : ℕ) (at : Place) → answer (history b as') c ≡ refused n at → history b (as' ++ (c ∷ [])) ≡ history b as'
  unfolding image_after
  refused_ask as' c n at e = history_then b as' c ∙ ap (image_after (history b as')) e

  -- ---- the last destination, ask by ask

  -- before any ask, the part where the object is
  pub first_part : (o : Entity) (p : ℕ) → In o (mesh S) → T (is_object (mesh S) (name o)) → In o (get_or (parts_of S) p []) → last_places b [] (places S) (name o) ≡ p
  unfolding last_places
  first_part o p i t j = sym ((Sentences.object_only (length S) (mesh S) (places S) b (begin b S y a) S a o i t).1 p j)

  -- after an accepted ask with an entry that names it, that entry's part
  pub last_destination : (as' : List Ask) (c : Ask) (m : Migrated) → answer (history b as') c ≡ accepted m → (k i : ℕ) → i < all_entries c.list → entry_name c.list i ≡ k
      → last_places b (as' ++ (c ∷ [])) (places S) k ≡ entry_part c.list i
  unfolding place_after
  last_destination as' c m e k i h is =
      let s = ends as' in
      let w = went s.set c.list c.out c.work m (sym (migrate_is (history b as') s.set c.list c.out c.work s.accepts) ∙ e) in
      ap (λ (place : Placement). place k) (places_then b as' c (places S) ∙ ap (place_after c.list (last_places b as' (places S))) e)
      ∙ moved_listed c.list w.entries (last_places b as' (places S)) k i h is

  -- after one that does not name it, as before
  pub not_named : (as' : List Ask) (c : Ask) (m : Migrated) → answer (history b as') c ≡ accepted m → (k : ℕ) → ((i : ℕ) → i < all_entries c.list → entry_name c.list i ≡ k → ⊥)
      → last_places b (as' ++ (c ∷ [])) (places S) k ≡ last_places b as' (places S) k
  unfolding place_after
  not_named as' c m e k free =
      ap (λ (place : Placement). place k) (places_then b as' c (places S) ∙ ap (place_after c.list (last_places b as' (places S))) e)
      ∙ moved_unlisted c.list (last_places b as' (places S)) k free

  -- after a refused ask, as before
  pub not_accepted : (as' : List Ask) (c : Ask) (n : ℕ) (at : Place) → answer (history b as') c ≡ refused n at
      → last_places b (as' ++ (c ∷ [])) (places S) ≡ last_places b as' (places S)
  unfolding place_after
  not_accepted as' c n at e = places_then b as' c (places S) ∙ ap (place_after c.list (last_places b as' (places S))) e
