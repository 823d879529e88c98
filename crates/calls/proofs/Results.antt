-- What follows from the demands, of calls: when a call is accepted, woken twice, an empty list, there and back, nothing lost and nothing twice,
-- sums counted once, a part that becomes empty and fills again. b is a list of bytes for which `check` answers Sound: the first image, or one
-- held after a run, by Demand3's `run_accepted` and `run_bytes`. Assumes nothing.
use Prim.Native.Nat.{ℕ, ◌≤◌}
use mathlib.Core.Path.{◌≡◌, sym, ap, ◌∙◌, subst, subst⁻¹}
use mathlib.Core.List.{List, []}
use lib.ListN.{length}
use lib.Dec.{T}
use lib.Pow.{are_bytes}
use Rattle.paper.specs.Outcome.{accepted}
use Rattle.paper.specs.Image.{row_total}
use Rattle.paper.specs.Mesh.{Entity}
use Rattle.paper.specs.Placement.{objects}
use Rattle.paper.specs.Move
use Rattle.paper.specs.Move.{Migrated, migrate_of, migrated}
use Rattle.paper.specs.Promises.{Checks}
use Rattle.paper.proofs.Meshes.{B, A_in_1}
use Rattle.paper.proofs.Table.{send}
use Rattle.demands.specs.History.{answer}
use Rattle.demands.specs.Reverse.{reverse_of}
use Rattle.demands.specs.Sums.{sum_of, over_objects, over_owned}
use Rattle.demands.proofs.Theorems.Statements.{Accepts, Iff}
use Rattle.demands.proofs.Results as result
use Rattle.demands.proofs.Results.Accepted.{Listed, Room}
use Rattle.demands.proofs.Results.Nothing.{Whole}
use Rattle.calls.specs.Calls.{Call, CallKept, held, Run, held_after, ask, set_held, parts_held, mesh_held, places_held}
use Rattle.calls.proofs.Answered.{outcome_by, sound_answer, call_moved, call_moves}
use Rattle.calls.proofs.Demand3.{run_accepted, run_bytes, mesh_unchanged}
use Rattle.paper.specs.Given.{sound_answer_of, moved_answer_of}

-- a call on b is what the paper gives for its list and its lengths
asked : (b : List ℕ) (c : Call) (l : List ℕ) (out work : ℕ) (m : Migrated) → c.list ≡ l → length c.out ≡ out → length c.work ≡ work
    → migrate_of b l out work ≡ accepted m → answer b (ask c) ≡ accepted m
asked b c l out work m is room words e = rw (is, room, words) e

-- ---- woken twice: the same list on its own result gives the same bytes and moves nothing, where the buffers suffice

pub woken_twice : (b : List ℕ) (y : T (are_bytes b)) (c : Call) → CallKept b c → (n rows objects : ℕ) → c.answer ≡ moved_answer_of n rows objects
    → (d : Call) → CallKept (held b c) d → d.list ≡ c.list → n ≤ length d.out → rows ≤ length d.work
    → (d.answer ≡ moved_answer_of n rows 0) × (held (held b c) d ≡ held b c)
woken_twice b y c kept n rows objects is d again same room words =
    let s = call_moved b c kept n rows objects is in
    let w = call_moves (held b c) d again (outcome_by b c rows 0) (ap (λ (l : List ℕ). migrate_of (held b c) l (length d.out) (length d.work)) same
    ∙ result.Again.woken_twice b c.list (length c.out) (length c.work) (length d.out) (length d.work) (outcome_by b c rows objects) y s.outcome
    (subst⁻¹ (λ (k : ℕ). k ≤ length d.out) s.length_is room) words) in
    (w.0 ∙ ap (λ (k : ℕ). moved_answer_of k rows 0) s.length_is, w.1)

module _ (b : List ℕ) (parts rows : ℕ) (y : T (are_bytes b)) (k : Checks b (sound_answer_of parts rows)) where
  a : Accepts b (set_held b)
  a = (sound_answer b parts rows k).accepts

  -- ---- exactly when a call is accepted: refusals 13 to 16 judge the list, 17 to 19 the buffers

  pub accepted_exactly_when : (c : Call) → CallKept b c
      → Iff (Listed (length (set_held b)) (mesh_held b) c.list × Room (set_held b) c.list (length c.out) (length c.work))
      ((n : ℕ) × (rows' : ℕ) × (objects : ℕ) × (c.answer ≡ moved_answer_of n rows' objects))
  accepted_exactly_when c kept = (
    λ w. let m = migrated (set_held b) c.list in
        (length m.image, m.rows, m.objects_moved, (call_moves b c kept m (result.Accepted.move_accepts b (set_held b) c.list (length c.out) (length c.work) y a w.0 w.1)).0),
    λ w. let v = result.Accepted.move_accepted b (set_held b) c.list (length c.out) (length c.work) (outcome_by b c w.1 w.2) y a
        (call_moved b c kept w.0 w.1 w.2 w.3).outcome in (v.0, v.1),
  )

  -- ---- an empty list gives the same image, where the buffers suffice

  pub empty_list : (c : Call) → CallKept b c → c.list ≡ [] → length b ≤ length c.out → rows ≤ length c.work
      → (c.answer ≡ moved_answer_of (length b) rows 0) × (held b c ≡ b)
  empty_list c kept none room words =
      let total = (sound_answer b parts rows k).total in
      let w = call_moves b c kept (record { image = b; rows = row_total (set_held b); objects_moved = 0 })
      (ap (λ (l : List ℕ). migrate_of b l (length c.out) (length c.work)) none
      ∙ result.Empty.empty_list b (set_held b) (length c.out) (length c.work) y a room (subst⁻¹ (λ (i : ℕ). i ≤ length c.work) total words)) in
      (w.0 ∙ ap (λ (i : ℕ). moved_answer_of (length b) i 0) total, w.1)

  -- ---- there and back: a list and then its reverse give the first image again, and move as many objects

  module _ (c : Call) (kept : CallKept b c) (n rows' moved : ℕ) (is : c.answer ≡ moved_answer_of n rows' moved) where
    pub there_and_back : (d : Call) → CallKept (held b c) d → d.list ≡ reverse_of (places_held b) c.list → length b ≤ length d.out → rows' ≤ length d.work
        → (d.answer ≡ moved_answer_of (length b) rows moved) × (held (held b c) d ≡ b)
    there_and_back d back turned room words =
        let total = (sound_answer b parts rows k).total in
        let w = call_moves (held b c) d back (record { image = b; rows = row_total (set_held b); objects_moved = moved })
        (ap (λ (l : List ℕ). migrate_of (held b c) l (length d.out) (length d.work)) turned
        ∙ result.Reverse.there_and_back b (set_held b) c.list (length c.out) (length c.work) (length d.out) (length d.work) (outcome_by b c rows' moved) y a
        (call_moved b c kept n rows' moved is).outcome room words) in
        (w.0 ∙ ap (λ (i : ℕ). moved_answer_of (length b) i moved) total, w.1)

    -- the reverse of a list of bytes is one
    pub reverse_is_bytes : T (are_bytes c.list) → T (are_bytes (reverse_of (places_held b) c.list))
    reverse_is_bytes yl =
        result.Reverse.reverse_is_bytes b (set_held b) c.list (length c.out) (length c.work) (outcome_by b c rows' moved) y yl a (call_moved b c kept n rows' moved is).outcome

  -- ---- after any run

  module _ (cs : List Call) (r : Run b cs) where
    a' : Accepts (held_after b cs) (set_held (held_after b cs))
    a' = (sound_answer (held_after b cs) parts (row_total (set_held (held_after b cs))) (run_accepted b parts rows y k cs r)).accepts

    -- nothing lost, nothing twice: every entity of the first mesh is in some part, nothing else is in any, an object in one part only
    pub nothing_lost : Whole (mesh_held b) (set_held (held_after b cs))
    nothing_lost =
        subst (λ (es : List Entity). Whole es (set_held (held_after b cs))) (mesh_unchanged b parts rows y k cs r)
        (result.Nothing.image_whole (held_after b cs) (set_held (held_after b cs)) (run_bytes b parts rows y k cs r) a')

    -- a sum over the objects of each part, or over what each part owns, counts each once: it is the sum over the first mesh
    module _ (w : Entity → ℕ) where
      pub objects_summed_once : over_objects w (parts_held (held_after b cs)) ≡ sum_of w (objects (mesh_held b))
      objects_summed_once =
          result.Once.objects_summed_once w (held_after b cs) (set_held (held_after b cs)) (run_bytes b parts rows y k cs r) a'
          ∙ ap (λ (es : List Entity). sum_of w (objects es)) (mesh_unchanged b parts rows y k cs r)

      pub owned_summed_once : over_owned w (parts_held (held_after b cs)) ≡ sum_of w (mesh_held b)
      owned_summed_once =
          result.Once.owned_summed_once w (held_after b cs) (set_held (held_after b cs)) (run_bytes b parts rows y k cs r) a'
          ∙ ap (sum_of w) (mesh_unchanged b parts rows y k cs r)

      -- so no call changes it
      pub same_sums : (over_objects w (parts_held (held_after b cs)) ≡ over_objects w (parts_held b)) × (over_owned w (parts_held (held_after b cs)) ≡ over_owned w (parts_held b))
      same_sums = (
        objects_summed_once ∙ sym (result.Once.objects_summed_once w b (set_held b) y a),
        owned_summed_once ∙ sym (result.Once.owned_summed_once w b (set_held b) y a),
      )

-- ---- a part becomes empty and fills again, computed: the triangles of the paper's mesh B come together in part 1 and part again

pub part_empties : (c : Call) → CallKept B c → c.list ≡ send 2 1 1 → length c.out ≡ 544 → length c.work ≡ 14
    → (c.answer ≡ moved_answer_of 544 11 1) × (held B c ≡ A_in_1)
unfolding Move.computes
part_empties c kept is room words =
    call_moves B c kept (record { image = A_in_1; rows = 11; objects_moved = 1 }) (asked B c (send 2 1 1) 544 14 _ is room words result.EmptyPart.part_empties)

pub part_fills : (c : Call) → CallKept A_in_1 c → c.list ≡ send 2 1 0 → length c.out ≡ 712 → length c.work ≡ 11
    → (c.answer ≡ moved_answer_of 712 14 1) × (held A_in_1 c ≡ B)
unfolding Move.computes
part_fills c kept is room words =
    call_moves A_in_1 c kept (record { image = B; rows = 14; objects_moved = 1 }) (asked A_in_1 c (send 2 1 0) 712 11 _ is room words result.EmptyPart.part_fills)
