-- DEMAND 2: "An accepted migration writes exactly the parts that the residence equation, the copy rule and the poor-to-rich ownership rule of
-- the published PUMI and FMDB papers give for the new placement. Two accepted images of equal part count that hold the same rows in the same
-- parts, reals compared by their bits, are the same bytes, and the same bytes hold the same rows."
-- Each sentence is a theorem. b is an image that the checker accepts, S its set, l a list, m what an accepted migration answers, S' the set
-- of the image that it writes. The new placement is `moved l (places S)`. Assumes nothing.
use Prim.Native.Nat.{ℕ, ◌<◌}
use mathlib.Core.Path.{◌≡◌, sym, ap, ◌∙◌, subst}
use mathlib.Core.List.{List, []}
use lib.ListN.{length, get_or}
use lib.Dec.{T}
use lib.Pow.{are_bytes}
use Rattle.laws.specs.Lists.{In, flat}
use Rattle.part_set.specs.Masks.{others, parts_in}
use Rattle.paper.specs.Outcome.{accepted}
use Rattle.paper.specs.Image.{Set, row_at, row_total}
use Rattle.paper.specs.Mesh.{Entity, name, is_object, owner_among, parts_of}
use Rattle.paper.specs.Sound.{name_of_row, resides_well}
use Rattle.paper.specs.Placement.{spread, rows_for, residence_in, places_of, image_for}
use Rattle.paper.specs.Move.{entry_name, entry_part, all_entries, moved, changes, Migrated, migrated, migrate_of}
use Rattle.laws.proofs.Members.{flat_in}
use Rattle.demands.proofs.Entities.Names.{holds_in}
use Rattle.demands.proofs.Entities.Owners.{Poorest}
use Rattle.demands.proofs.Mesh.Spread.{Under}
use Rattle.demands.proofs.Fit.Record.{Fit}
use Rattle.demands.proofs.Fit.ToMesh.{in_mesh, mesh_object}
use Rattle.demands.proofs.Sound.Facts.{Each}
use Rattle.demands.proofs.Sound.Rows.{Twin}
use Rattle.demands.proofs.Theorems.Statements.{Accepts, mesh, places, OnlyIn, Iff}
use Rattle.demands.proofs.Theorems.Destinations.{moved_listed, moved_unlisted}
use Rattle.demands.proofs.Theorems.Went.{Went, went, migrate_is}
use Rattle.demands.proofs.Theorems.SameBytes.{same_rows, same_bytes}
use Rattle.demands.proofs.Theorems.Now.{Now, begin, moves_at}
use Rattle.demands.proofs.Theorems.Sentences

-- ---- what an accepted migration writes

module _ (b : List ℕ) (S : Set) (l : List ℕ) (out work : ℕ) (m : Migrated) (y : T (are_bytes b)) (a : Accepts b S) (e : migrate_of b l out work ≡ accepted m) where
  taken : Went S l m
  taken = went S l out work m (sym (migrate_is b S l out work a) ∙ e)

  now : Now (length S) (mesh S) (moved l (places S)) m.image
  now = moves_at (length S) (mesh S) (places S) b l m (begin b S y a) taken

  -- the canonical image of the same mesh at the new placement
  pub writes_canonical_image : m.image ≡ image_for (length S) (mesh S) (moved l (places S))
  unfolding migrated
  writes_canonical_image = ap (λ (x : Migrated). x.image) (sym taken.is)

  -- which the checker accepts
  pub writes_accepted_image : (S' : Set) × Accepts m.image S'
  writes_accepted_image = (now.set, now.accepts)

  pub writes_bytes : T (are_bytes m.image)
  writes_bytes = now.is_bytes

  module _ (S' : Set) (a' : Accepts m.image S') where
    -- the same parts, and the same mesh in them
    pub part_count : length S' ≡ length S
    part_count = Sentences.count_is (length S) (mesh S) (moved l (places S)) m.image now S' a'

    pub same-mesh : mesh S' ≡ mesh S
    same-mesh = Sentences.mesh_is (length S) (mesh S) (moved l (places S)) m.image now S' a'

    -- "each partition object takes its listed destination": it is in that part and in no other
    pub listed_object : (o : Entity) (i : ℕ) → In o (mesh S) → T (is_object (mesh S) (name o)) → i < all_entries l → entry_name l i ≡ name o
        → OnlyIn (parts_of S') (entry_part l i) o
    listed_object o i j t h is =
        subst (λ (p : ℕ). OnlyIn (parts_of S') p o) (moved_listed l taken.entries (places S) (name o) i h is)
        (Sentences.object_only (length S) (mesh S) (moved l (places S)) m.image now S' a' o j t)

    -- and every entry names an object, which is there
    pub entry_lands : (i : ℕ) → i < all_entries l → (o : Entity) × In o (mesh S) × T (is_object (mesh S) (name o)) × (entry_name l i ≡ name o) × OnlyIn (parts_of S') (entry_part l i) o
    entry_lands i h =
        let F : Fit (parts_of S) = Sentences.is_fit b S y a in
        let w = holds_in (flat (parts_of S)) (entry_name l i) (taken.there i h) in
        let v = flat_in (parts_of S) w.0 w.1 in
        let j : In w.0 (mesh S) = in_mesh (parts_of S) F v.0 w.0 v.2 in
        let t : T (is_object (mesh S) (name w.0)) = subst T (mesh_object (parts_of S) F (name w.0)) (subst (λ (k : ℕ). T (is_object (flat (parts_of S)) k)) w.2 (taken.objects i h)) in
        (w.0, j, t, w.2, listed_object w.0 i j t h w.2)

    -- "or stays": it is in the part where it was and in no other
    pub unlisted_object : (o : Entity) (p : ℕ) → In o (mesh S) → T (is_object (mesh S) (name o)) → ((i : ℕ) → i < all_entries l → entry_name l i ≡ name o → ⊥)
        → In o (get_or (parts_of S) p []) → OnlyIn (parts_of S') p o
    unlisted_object o p j t free was =
        let old : p ≡ places S (name o) = (Sentences.object_only (length S) (mesh S) (places S) b (begin b S y a) S a o j t).1 p was in
        subst (λ (q : ℕ). OnlyIn (parts_of S') q o) (moved_unlisted l (places S) (name o) free ∙ sym old)
        (Sentences.object_only (length S) (mesh S) (moved l (places S)) m.image now S' a' o j t)

    -- "each part then holds the closures of its objects", and no more
    pub part_holds_closures : (f : Entity) (p : ℕ) → Iff (In f (get_or (parts_of S') p [])) (In f (mesh S) × Under (mesh S) (moved l (places S)) p (name f))
    part_holds_closures = Sentences.part-closures (length S) (mesh S) (moved l (places S)) m.image now S' a'

    -- the residence equation (001, definitions 4.2 and 4.3): an object in one part, any other entity in the union of the sets of what it bounds
    pub residence_equation : Each S' (λ p s. T (resides_well S' p s))
    residence_equation = Sentences.residence_union m.image S' writes_bytes a'

    -- and the residence set names exactly the parts that hold the entity
    pub residence-exact : Each S' (λ p s. (row_at S' p s).mask ≡ residence_in (parts_of S') (name_of_row (row_at S' p s)))
    residence-exact = Sentences.residence-holds m.image S' writes_bytes a'

    -- the copy rule: every twin agrees and names the row back
    pub copies_agree_lem : (p s q : ℕ) → s < length (get_or S' p []) → In q (others (row_at S' p s).mask p) → Twin S' p s q
    copies_agree_lem = Sentences.copy_agrees m.image S' writes_bytes a'

    -- poor to rich (000), counted after the move: in the parts that are written
    pub owner_after : Each S' (λ p s. (row_at S' p s).owner ≡ owner_among (parts_of S') (parts_in (row_at S' p s).mask))
    owner_after = Sentences.owner_rule m.image S' writes_bytes a'

    pub owner_poorest_after : Each S' (λ p s. Poorest (parts_of S') (parts_in (row_at S' p s).mask) (row_at S' p s).owner)
    owner_poorest_after = Sentences.owner_poor m.image S' writes_bytes a'

    -- the answer's numbers: the rows that are written, and the objects whose part in S' is not the one in S
    pub row_count : m.rows ≡ row_total S'
    unfolding migrated
    row_count =
        ap (λ (x : Migrated). x.rows) (sym taken.is)
        ∙ ap row_total (sym (Sentences.rows_follow m.image S' writes_bytes a'
        ∙ ap rows_for (Sentences.parts_are (length S) (mesh S) (moved l (places S)) m.image now S' a')))

    pub moved-count : m.objects_moved ≡ changes (places_of (mesh S) (places S)) (places_of (mesh S) (places S'))
    unfolding migrated
    moved-count =
        ap (λ (x : Migrated). x.objects_moved) (sym taken.is)
        ∙ ap (changes (places_of (mesh S) (places S))) (sym (Sentences.places_are (length S) (mesh S) (moved l (places S)) m.image now S' a'))

-- ---- two accepted images

module _ (b b' : List ℕ) (S S' : Set) (y : T (are_bytes b)) (y' : T (are_bytes b')) (a : Accepts b S) (a' : Accepts b' S') where
  -- of equal part count that hold the same rows in the same parts, in any order, are the same bytes
  pub same_rows_same_bytes : length S ≡ length S' → ((p : ℕ) (f : Entity) → Iff (In f (get_or (parts_of S) p [])) (In f (get_or (parts_of S') p []))) → b ≡ b'
  same_rows_same_bytes n h = same_rows b b' S S' y y' a a' n (λ p f. (h p f).0) (λ p f. (h p f).1)

  -- and the same bytes hold the same rows
  pub same_bytes_same_rows : b ≡ b' → S ≡ S'
  same_bytes_same_rows h = same_bytes b' S S' (subst (λ (x : List ℕ). Accepts x S) h a) a'

-- order, slots, residence sets and owners of an accepted image follow from the entities of each part
pub rows_from_parts : (b : List ℕ) (S : Set) → T (are_bytes b) → Accepts b S → S ≡ rows_for (parts_of S)
rows_from_parts = Sentences.rows_follow

-- and these from the mesh and the placement
pub rows_from_placement : (b : List ℕ) (S : Set) → T (are_bytes b) → Accepts b S → S ≡ rows_for (spread (length S) (mesh S) (places S))
rows_from_placement b S y a = rows_from_parts b S y a ∙ ap rows_for (Sentences.parts_are (length S) (mesh S) (places S) b (begin b S y a) S a)
