-- DEMAND 2 of a call: "An accepted migration writes exactly the parts that the residence equation, the copy rule and the poor-to-rich ownership
-- rule of the published PUMI and FMDB papers give for the new placement. Two accepted images of equal part count that hold the same rows in the
-- same parts, reals compared by their bits, are the same bytes, and the same bytes hold the same rows."
-- Each sentence is a theorem. b is a list of bytes for which `check` answers Sound (after a run that is `held_after`, by Demand3's `run_accepted`
-- and `run_bytes`), c a call on it that answers Moved, `held b c` the image that the caller then holds. The new placement is
-- `moved c.list (places_held b)`. Assumes nothing.
use Prim.Native.Nat.{ℕ, ◌<◌}
use mathlib.Core.Path.{◌≡◌, sym, ap, ap₂, ◌∙◌, subst}
use mathlib.Core.List.{List, [], ◌++◌}
use lib.ListN.{length, get_or, drop}
use lib.Dec.{T}
use lib.Pow.{are_bytes}
use Rattle.laws.specs.Lists.{In}
use Rattle.part_set.specs.Masks.{others, parts_in}
use Rattle.paper.specs.Image.{row_at, row_total}
use Rattle.paper.specs.Mesh.{Entity, name, is_object, owner_among}
use Rattle.paper.specs.Sound.{name_of_row, resides_well}
use Rattle.paper.specs.Placement.{spread, rows_for, residence_in, places_of, image_for}
use Rattle.paper.specs.Move.{entry_name, entry_part, all_entries, moved, changes}
use Rattle.paper.specs.Promises.{Checks}
use Rattle.demands.proofs.Entities.Owners.{Poorest}
use Rattle.demands.proofs.Mesh.Spread.{Under}
use Rattle.demands.proofs.Sound.Facts.{Each}
use Rattle.demands.proofs.Sound.Rows.{Twin}
use Rattle.demands.proofs.Theorems.Statements.{Accepts, OnlyIn, Iff}
use Rattle.demands.proofs.Theorems.Demand2 as theorem
use Rattle.calls.specs.Calls.{Call, CallKept, held, set_held, parts_held, mesh_held, places_held}
use Rattle.calls.proofs.Answered.{outcome_by, Moves, set_accepted, sound_answer, answer_sound, call_moved}
use Rattle.paper.specs.Given.{sound_answer_of, moved_answer_of}

-- ---- what a call that moved has written

module _ (b : List ℕ) (parts rows : ℕ) (y : T (are_bytes b)) (k : Checks b (sound_answer_of parts rows))
    (c : Call) (kept : CallKept b c) (n rows' objects : ℕ) (is : c.answer ≡ moved_answer_of n rows' objects) where
  a : Accepts b (set_held b)
  a = (sound_answer b parts rows k).accepts

  call : Moves b c n rows' objects
  call = call_moved b c kept n rows' objects is

  a' : Accepts (held b c) (set_held (held b c))
  a' = set_accepted (held b c) (theorem.writes_accepted_image b (set_held b) c.list (length c.out) (length c.work) (outcome_by b c rows' objects) y a call.outcome)

  -- the canonical image of the same mesh at the new placement
  pub holds_canonical_image : held b c ≡ image_for parts (mesh_held b) (moved c.list (places_held b))
  holds_canonical_image =
      theorem.writes_canonical_image b (set_held b) c.list (length c.out) (length c.work) (outcome_by b c rows' objects) y a call.outcome
      ∙ ap (λ (p : ℕ). image_for p (mesh_held b) (moved c.list (places_held b))) (sound_answer b parts rows k).count

  -- whose length is the answer's
  pub image-length : length (held b c) ≡ n
  image-length = call.length_is

  -- the output buffer is that image, and behind it what was there
  pub writes_canonical_image : c.out' ≡ image_for parts (mesh_held b) (moved c.list (places_held b)) ++ drop n c.out
  writes_canonical_image = call.output ∙ ap (λ (x : List ℕ). x ++ drop n c.out) holds_canonical_image

  -- the answer's numbers: the rows that are written, and the objects whose part is not the one that it was
  pub row_count : rows' ≡ row_total (set_held (held b c))
  row_count = theorem.row_count b (set_held b) c.list (length c.out) (length c.work) (outcome_by b c rows' objects) y a call.outcome (set_held (held b c)) a'

  pub moved-count : objects ≡ changes (places_of (mesh_held b) (places_held b)) (places_of (mesh_held b) (places_held (held b c)))
  moved-count = theorem.moved-count b (set_held b) c.list (length c.out) (length c.work) (outcome_by b c rows' objects) y a call.outcome (set_held (held b c)) a'

  -- the same parts, and the same mesh in them
  pub part_count : length (set_held (held b c)) ≡ length (set_held b)
  part_count = theorem.part_count b (set_held b) c.list (length c.out) (length c.work) (outcome_by b c rows' objects) y a call.outcome (set_held (held b c)) a'

  pub same-mesh : mesh_held (held b c) ≡ mesh_held b
  same-mesh = theorem.same-mesh b (set_held b) c.list (length c.out) (length c.work) (outcome_by b c rows' objects) y a call.outcome (set_held (held b c)) a'

  -- bytes that the checker accepts: it answers the same part count, and the row count that the call answered
  pub writes_bytes : T (are_bytes (held b c))
  writes_bytes = theorem.writes_bytes b (set_held b) c.list (length c.out) (length c.work) (outcome_by b c rows' objects) y a call.outcome

  pub writes_accepted_image : Checks (held b c) (sound_answer_of parts rows')
  writes_accepted_image =
      subst (Checks (held b c)) (ap₂ sound_answer_of (part_count ∙ (sound_answer b parts rows k).count) (sym row_count))
      (answer_sound (held b c) (set_held (held b c)) a')

  -- "each partition object takes its listed destination": it is in that part and in no other
  pub listed_object : (o : Entity) (i : ℕ) → In o (mesh_held b) → T (is_object (mesh_held b) (name o)) → i < all_entries c.list → entry_name c.list i ≡ name o
      → OnlyIn (parts_held (held b c)) (entry_part c.list i) o
  listed_object = theorem.listed_object b (set_held b) c.list (length c.out) (length c.work) (outcome_by b c rows' objects) y a call.outcome (set_held (held b c)) a'

  -- and every entry names an object, which is there
  pub entry_lands : (i : ℕ) → i < all_entries c.list
      → (o : Entity) × In o (mesh_held b) × T (is_object (mesh_held b) (name o)) × (entry_name c.list i ≡ name o) × OnlyIn (parts_held (held b c)) (entry_part c.list i) o
  entry_lands = theorem.entry_lands b (set_held b) c.list (length c.out) (length c.work) (outcome_by b c rows' objects) y a call.outcome (set_held (held b c)) a'

  -- "or stays": it is in the part where it was and in no other
  pub unlisted_object : (o : Entity) (p : ℕ) → In o (mesh_held b) → T (is_object (mesh_held b) (name o))
      → ((i : ℕ) → i < all_entries c.list → entry_name c.list i ≡ name o → ⊥) → In o (get_or (parts_held b) p []) → OnlyIn (parts_held (held b c)) p o
  unlisted_object = theorem.unlisted_object b (set_held b) c.list (length c.out) (length c.work) (outcome_by b c rows' objects) y a call.outcome (set_held (held b c)) a'

  -- "each part then holds the closures of its objects", and no more
  pub part_holds_closures : (f : Entity) (p : ℕ) → Iff (In f (get_or (parts_held (held b c)) p [])) (In f (mesh_held b) × Under (mesh_held b) (moved c.list (places_held b)) p (name f))
  part_holds_closures = theorem.part_holds_closures b (set_held b) c.list (length c.out) (length c.work) (outcome_by b c rows' objects) y a call.outcome (set_held (held b c)) a'

  -- the residence equation: an object in one part, any other entity in the union of the sets of what it bounds
  pub residence_equation : Each (set_held (held b c)) (λ p s. T (resides_well (set_held (held b c)) p s))
  residence_equation = theorem.residence_equation b (set_held b) c.list (length c.out) (length c.work) (outcome_by b c rows' objects) y a call.outcome (set_held (held b c)) a'

  -- and the residence set names exactly the parts that hold the entity
  pub residence-exact : Each (set_held (held b c)) (λ p s. (row_at (set_held (held b c)) p s).mask ≡ residence_in (parts_held (held b c)) (name_of_row (row_at (set_held (held b c)) p s)))
  residence-exact = theorem.residence-exact b (set_held b) c.list (length c.out) (length c.work) (outcome_by b c rows' objects) y a call.outcome (set_held (held b c)) a'

  -- the copy rule: every twin agrees and names the row back
  pub copies_agree_lem : (p s q : ℕ) → s < length (get_or (set_held (held b c)) p []) → In q (others (row_at (set_held (held b c)) p s).mask p) → Twin (set_held (held b c)) p s q
  copies_agree_lem = theorem.copies_agree_lem b (set_held b) c.list (length c.out) (length c.work) (outcome_by b c rows' objects) y a call.outcome (set_held (held b c)) a'

  -- poor to rich, counted after the move: in the parts that are written
  pub owner_after : Each (set_held (held b c)) (λ p s. (row_at (set_held (held b c)) p s).owner ≡ owner_among (parts_held (held b c)) (parts_in (row_at (set_held (held b c)) p s).mask))
  owner_after = theorem.owner_after b (set_held b) c.list (length c.out) (length c.work) (outcome_by b c rows' objects) y a call.outcome (set_held (held b c)) a'

  pub owner_poorest_after : Each (set_held (held b c)) (λ p s. Poorest (parts_held (held b c)) (parts_in (row_at (set_held (held b c)) p s).mask) (row_at (set_held (held b c)) p s).owner)
  owner_poorest_after = theorem.owner_poorest_after b (set_held b) c.list (length c.out) (length c.work) (outcome_by b c rows' objects) y a call.outcome (set_held (held b c)) a'

-- ---- two images for which check answers Sound with one part count

module _ (b b' : List ℕ) (parts rows rows' : ℕ) (y : T (are_bytes b)) (y' : T (are_bytes b')) (k : Checks b (sound_answer_of parts rows)) (k' : Checks b' (sound_answer_of parts rows')) where
  -- that hold the same rows in the same parts, in any order, are the same bytes
  pub same_rows_same_bytes : ((p : ℕ) (f : Entity) → Iff (In f (get_or (parts_held b) p [])) (In f (get_or (parts_held b') p []))) → b ≡ b'
  same_rows_same_bytes =
      let s = sound_answer b parts rows k in
      let s' = sound_answer b' parts rows' k' in
      theorem.same_rows_same_bytes b b' (set_held b) (set_held b') y y' s.accepts s'.accepts (s.count ∙ sym s'.count)

-- and the same bytes hold the same rows
pub same_bytes_same_rows : (b b' : List ℕ) → b ≡ b' → set_held b ≡ set_held b'
same_bytes_same_rows b b' e = ap set_held e

-- ---- an image for which check answers Sound

module _ (b : List ℕ) (parts rows : ℕ) (y : T (are_bytes b)) (k : Checks b (sound_answer_of parts rows)) where
  -- order, slots, residence sets and owners follow from the entities of each part
  pub rows_from_parts : set_held b ≡ rows_for (parts_held b)
  rows_from_parts = theorem.rows_from_parts b (set_held b) y (sound_answer b parts rows k).accepts

  -- and these from the mesh and the placement
  pub rows_from_placement : set_held b ≡ rows_for (spread parts (mesh_held b) (places_held b))
  rows_from_placement =
      let s = sound_answer b parts rows k in
      theorem.rows_from_placement b (set_held b) y s.accepts ∙ ap (λ (p : ℕ). rows_for (spread p (mesh_held b) (places_held b))) s.count
