-- DEMAND 3 of any run of calls: "Start from any image the checker accepts, and run any sequence of migrations, refused ones included, each
-- starting from the last accepted image. The whole mesh stays what it was: the same entities, boundaries, coordinates and values. Each partition
-- object is in one part only: the last destination an accepted migration gave it, or its first part if none named it. Each lower entity is in
-- exactly the parts where something it bounds lives. Every remote copy is returned by its twin. Two histories from one image that end with the
-- same placement end with the same bytes."
-- Each sentence is a theorem. b is a list of bytes for which `check` answers Sound, cs any calls that kept their promises, `held_after b cs` the
-- image that the caller then holds. Assumes nothing.
use Prim.Native.Nat.{ℕ, ◌<◌}
use mathlib.Core.Path.{◌≡◌, sym, ap, ap₂, ◌∙◌, subst}
use mathlib.Core.List.{List, [], ◌∷◌, ◌++◌}
use lib.ListN.{length, get_or, take}
use lib.Dec.{T}
use lib.Pow.{are_bytes}
use Rattle.laws.specs.Lists.{In}
use Rattle.part_set.specs.Masks.{others}
use Rattle.paper.specs.declared.Refusal.{Refusal}
use Rattle.paper.specs.Image.{image_of, row_at, row_total}
use Rattle.paper.specs.Mesh.{Entity, Parts, name, bounds, is_object}
use Rattle.paper.specs.Placement.{Placement, rows_for, places_of, image_for}
use Rattle.paper.specs.Move.{entry_name, entry_part, all_entries}
use Rattle.paper.specs.Promises.{Checks}
use Rattle.demands.specs.History.{Ask, answer, history, last_places}
use Rattle.demands.proofs.Sound.Rows.{Twin}
use Rattle.demands.proofs.Theorems.Statements.{Accepts, OnlyIn, Iff}
use Rattle.demands.proofs.Theorems.Destinations.{moved_unlisted}
use Rattle.demands.proofs.Theorems.T1.{theorem_1}
use Rattle.demands.proofs.Theorems.Now.{begin}
use Rattle.demands.proofs.Theorems.Histories.{keeps}
use Rattle.demands.proofs.Theorems.Sentences.{parts_are}
use Rattle.demands.proofs.Theorems.Demand3 as theorem
use Rattle.demands.proofs.Results.Unique.{checks_one}
use Rattle.calls.specs.Calls.{Call, image_left, Run, held_after, place_left, places_after, ask, asks, set_held, parts_held, mesh_held, places_held}
use Rattle.calls.proofs.Answered.{outcome_by, set_accepted, sound_answer, answer_sound, call_moved}
use Rattle.calls.proofs.Runs.{run_is_history, run_places, held_then, places_then, run_none, run_then, asks_then}
use Rattle.std.specs.Prelude.{Err}
use Rattle.paper.specs.Given.{CheckAnswer, MigrateAnswer, sound_answer_of, moved_answer_of}

module _ (b : List ℕ) (parts rows : ℕ) (y : T (are_bytes b)) (k : Checks b (sound_answer_of parts rows)) where
  first : Accepts b (set_held b)
  first = (sound_answer b parts rows k).accepts

  module _ (cs : List Call) (r : Run b cs) where
    ends : Accepts (history b (asks cs)) (set_held (held_after b cs))
    ends = subst (λ (x : List ℕ). Accepts (history b (asks cs)) (set_held x)) (sym (run_is_history b cs r))
        (set_accepted (history b (asks cs)) (theorem.history_accepted b (set_held b) y first (asks cs)))

    -- the image held is one that the checker accepts, of the same part count
    pub run_accepted : Checks (held_after b cs) (sound_answer_of parts (row_total (set_held (held_after b cs))))
    run_accepted =
        subst (λ (n : ℕ). Checks (held_after b cs) (sound_answer_of n (row_total (set_held (held_after b cs)))))
        (theorem.part_count_unchanged b (set_held b) y first (asks cs) (set_held (held_after b cs)) ends ∙ (sound_answer b parts rows k).count)
        (answer_sound (held_after b cs) (set_held (held_after b cs)) (subst (λ (x : List ℕ). Accepts x (set_held (held_after b cs))) (sym (run_is_history b cs r)) ends))

    -- so that is what `check` answers of it
    pub run_checked : (q : CheckAnswer) → Checks (held_after b cs) q → q ≡ sound_answer_of parts (row_total (set_held (held_after b cs)))
    run_checked q kept = checks_one kept run_accepted

    pub run_bytes : T (are_bytes (held_after b cs))
    run_bytes = subst (λ (x : List ℕ). T (are_bytes x)) (sym (run_is_history b cs r)) (theorem.history-bytes b (set_held b) y first (asks cs))

    -- and it is the canonical image of the first mesh at the placement by the answers
    pub run_canonical : held_after b cs ≡ image_for parts (mesh_held b) (places_after cs (places_held b))
    unfolding image_for
    run_canonical =
        let now = keeps (length (set_held b)) (mesh_held b) (places_held b) b (asks cs) (begin b (set_held b) y first) in
        run_is_history b cs r ∙ (theorem_1 (history b (asks cs)) (set_held (held_after b cs)) now.is_bytes ends).bytes
        ∙ ap (λ (ps : Parts). image_of (rows_for ps)) (parts_are (length (set_held b)) (mesh_held b) (last_places b (asks cs) (places_held b)) (history b (asks cs)) now (set_held (held_after b cs)) ends)
        ∙ ap₂ (λ (p : ℕ) (place : Placement). image_for p (mesh_held b) place) (sound_answer b parts rows k).count (sym (run_places b cs (places_held b) r))

    -- "The whole mesh stays what it was: the same entities, boundaries, coordinates and values", which are what an Entity has
    pub mesh_unchanged : mesh_held (held_after b cs) ≡ mesh_held b
    mesh_unchanged = theorem.mesh_unchanged b (set_held b) y first (asks cs) (set_held (held_after b cs)) ends

    pub part_count_unchanged : length (set_held (held_after b cs)) ≡ length (set_held b)
    part_count_unchanged = theorem.part_count_unchanged b (set_held b) y first (asks cs) (set_held (held_after b cs)) ends

    -- "Each partition object is in one part only: the last destination an accepted migration gave it, or its first part if none named it":
    -- `places_after` is that part by the answers; `first_part`, `last_destination`, `not_named` and `not_accepted` below say so call by call
    pub object_in_one_part : (o : Entity) → In o (mesh_held b) → T (is_object (mesh_held b) (name o)) → OnlyIn (parts_held (held_after b cs)) (places_after cs (places_held b) (name o)) o
    object_in_one_part o i t =
        subst (λ (place : Placement). OnlyIn (parts_held (held_after b cs)) (place (name o)) o) (sym (run_places b cs (places_held b) r))
        (theorem.object_in_one_part b (set_held b) y first (asks cs) (set_held (held_after b cs)) ends o i t)

    -- "Each lower entity is in exactly the parts where something it bounds lives"
    pub lower_entity_where_it_bounds : (f : Entity) (p : ℕ) → In f (mesh_held b) → (T (is_object (mesh_held b) (name f)) → ⊥)
        → Iff (In f (get_or (parts_held (held_after b cs)) p [])) ((g : Entity) × In g (get_or (parts_held (held_after b cs)) p []) × T (bounds (name f) g))
    lower_entity_where_it_bounds = theorem.lower_entity_where_it_bounds b (set_held b) y first (asks cs) (set_held (held_after b cs)) ends

    -- "Every remote copy is returned by its twin"
    pub copy_returned : (p s q : ℕ) → s < length (get_or (set_held (held_after b cs)) p []) → In q (others (row_at (set_held (held_after b cs)) p s).mask p)
        → Twin (set_held (held_after b cs)) p s q
    copy_returned = theorem.copy_returned b (set_held b) y first (asks cs) (set_held (held_after b cs)) ends

  module _ (cs₁ cs₂ : List Call) (r₁ : Run b cs₁) (r₂ : Run b cs₂) where
    -- "Two histories from one image that end with the same placement end with the same bytes": the placement is read from the images
    pub same_placement_same_bytes : places_of (mesh_held b) (places_held (held_after b cs₁)) ≡ places_of (mesh_held b) (places_held (held_after b cs₂)) → held_after b cs₁ ≡ held_after b cs₂
    same_placement_same_bytes h =
        run_is_history b cs₁ r₁
        ∙ theorem.same_placement_same_bytes b (set_held b) y first (asks cs₁) (asks cs₂) (set_held (held_after b cs₁)) (set_held (held_after b cs₂)) (ends cs₁ r₁) (ends cs₂ r₂) h
        ∙ sym (run_is_history b cs₂ r₂)

    -- or worked out from the answers
    pub same_last_places_same_bytes : places_of (mesh_held b) (places_after cs₁ (places_held b)) ≡ places_of (mesh_held b) (places_after cs₂ (places_held b)) → held_after b cs₁ ≡ held_after b cs₂
    same_last_places_same_bytes h =
        run_is_history b cs₁ r₁
        ∙ theorem.same_last_places_same_bytes b (set_held b) y first (asks cs₁) (asks cs₂)
        (ap (places_of (mesh_held b)) (sym (run_places b cs₁ (places_held b) r₁)) ∙ h ∙ ap (places_of (mesh_held b)) (run_places b cs₂ (places_held b) r₂))
        ∙ sym (run_is_history b cs₂ r₂)

  -- ---- the last destination, call by call

  -- before any call, the part where the object is
  pub first_part : (o : Entity) (p : ℕ) → In o (mesh_held b) → T (is_object (mesh_held b) (name o)) → In o (get_or (parts_held b) p []) → places_after [] (places_held b) (name o) ≡ p
  first_part o p i t j = ap (λ (place : Placement). place (name o)) (run_places b [] (places_held b) (run_none b)) ∙ theorem.first_part b (set_held b) y first o p i t j

  -- after a call that moved and has an entry that names it, that entry's part
  pub last_destination : (cs : List Call) (c : Call) → Run b (cs ++ (c ∷ [])) → (n rows' objects : ℕ) → c.answer ≡ moved_answer_of n rows' objects
      → (o i : ℕ) → i < all_entries c.list → entry_name c.list i ≡ o → places_after (cs ++ (c ∷ [])) (places_held b) o ≡ entry_part c.list i
  last_destination cs c r n rows' objects is o i h named =
      let w = run_then b cs c r in
      ap (λ (place : Placement). place o) (run_places b (cs ++ (c ∷ [])) (places_held b) r ∙ ap (λ (as' : List Ask). last_places b as' (places_held b)) (asks_then cs c))
      ∙ theorem.last_destination b (set_held b) y first (asks cs) (ask c) (outcome_by (held_after b cs) c rows' objects)
      (ap (λ (x : List ℕ). answer x (ask c)) (sym (run_is_history b cs w.0)) ∙ (call_moved (held_after b cs) c w.1 n rows' objects is).outcome) o i h named

-- after one that moved and does not name it, as before
pub not_named : (cs : List Call) (c : Call) (place : Placement) (n rows objects : ℕ) → c.answer ≡ moved_answer_of n rows objects
    → (o : ℕ) → ((i : ℕ) → i < all_entries c.list → entry_name c.list i ≡ o → ⊥) → places_after (cs ++ (c ∷ [])) place o ≡ places_after cs place o
unfolding place_left
not_named cs c place n rows objects is o free =
    ap (λ (new : Placement). new o) (places_then cs c place ∙ ap (place_left c.list (places_after cs place)) is) ∙ moved_unlisted c.list (places_after cs place) o free

-- after one that was refused, as before
pub not_accepted : (cs : List Call) (c : Call) (place : Placement) (r : Refusal) → c.answer ≡ Err r → places_after (cs ++ (c ∷ [])) place ≡ places_after cs place
unfolding place_left
not_accepted cs c place r is = places_then cs c place ∙ ap (place_left c.list (places_after cs place)) is

-- ---- the image held, call by call

pub accepted_call : (b : List ℕ) (cs : List Call) (c : Call) (n rows objects : ℕ) → c.answer ≡ moved_answer_of n rows objects → held_after b (cs ++ (c ∷ [])) ≡ take n c.out'
unfolding image_left
accepted_call b cs c n rows objects is = held_then b cs c ∙ ap (λ (a : MigrateAnswer). image_left (held_after b cs) a c.out') is

pub refused_call : (b : List ℕ) (cs : List Call) (c : Call) (r : Refusal) → c.answer ≡ Err r → held_after b (cs ++ (c ∷ [])) ≡ held_after b cs
unfolding image_left
refused_call b cs c r is = held_then b cs c ∙ ap (λ (a : MigrateAnswer). image_left (held_after b cs) a c.out') is
