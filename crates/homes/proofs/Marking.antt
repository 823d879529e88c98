-- The words of the rows have the marks by which the residence sets of a placement are worked out. Assumes nothing.
use Prim.Native.Nat.{ℕ, zero, suc, ◌+◌, ◌<◌}
use mathlib.Core.Path.{◌≡◌, refl, sym, ap, ◌∙◌, subst}
use mathlib.Core.Bool.{not, ◌&&◌}
use mathlib.Core.List.{List, [], ◌∷◌, map}
use lib.ListN.{length, get_or}
use lib.Dec.{T, eqb, eqb→eq, ltb, ltb→lt}
use Rattle.laws.specs.Lists.{In, flat, up_to, member}
use Rattle.laws.proofs.Tests.{iff_eq, eq-eqb, split2, join2, split3, join3, bit_open}
use Rattle.laws.proofs.Members.{every_in, in_map, some_in}
use Rattle.laws.proofs.Agree.{map_same, some_same}
use Rattle.laws.proofs.Ranges.{up_to_in}
use Rattle.paper.specs.Image.{Row, no_row, row_at}
use Rattle.paper.specs.Mesh.{Entity, name, ent_of, parts_of, slots_of}
use Rattle.paper.specs.Sound.{name_of_row}
use Rattle.paper.specs.Placement.{objects, places_of, WellPlaced}
use Rattle.demands.proofs.Mesh.Spread.{in_objects}
use Rattle.demands.proofs.Sound.Facts.{Sound}
use Rattle.demands.proofs.Sound.Rows.{row, ent, in_part_lem}
use Rattle.demands.proofs.Sound.ToFit.{sound_fit}
use Rattle.demands.proofs.Fit.ToMesh.{in_mesh}
use Rattle.demands.proofs.ForCode.Covered.{covered}
use Rattle.demands.proofs.ForCode.Marks.{marks, marked, row_is_object}
use Rattle.demands.proofs.ForCode.SlotClosures as by_slots
use Rattle.index.specs.Index.{set_in}
use Rattle.residence.specs.Tables.{slot_covered, Covers}
use Rattle.residence.proofs.Names.{covered_slot}
use Rattle.marks.specs.Closures.{slot_closure, closure_marks, object_marks, part_marks}
use Rattle.plan.specs.Plan.{mesh, placing, Destined}

-- ---- one closure

-- the closure that marks the words is that of the laws on placements
one-closure : (d : ℕ) (rows : List Row) (s : ℕ) → slot_closure d rows s ≡ by_slots.slot_closure d rows s
unfolding slot_closure by_slots.slot_closure
one-closure zero rows s = refl
one-closure (suc d) rows s =
    let fs = slots_of (suc d) (get_or rows s no_row).body in
    ap (λ (xss : List (List ℕ)). s ∷ flat xss) (map_same (slot_closure d rows) (by_slots.slot_closure d rows) fs (λ t i. one-closure d rows t))

-- ---- the marks of an image whose objects have destinations

module _ {b l starts table dest : List ℕ} (f : Sound (set_in b)) (covers : Covers b starts table) (destined : Destined b l starts table dest) where
  -- a row is an object's where the table has 0
  open_row : (p o : ℕ) → o < length (get_or (set_in b) p []) → eqb (get_or table (get_or starts p 0 + o) 0) 0 ≡ not (covered (set_in b) p (name_of_row (row (set_in b) p o)))
  open_row p o h =
      ap (λ (x : ℕ). eqb x 0) (covers.entry p o h) ∙ bit_open (slot_covered (get_or (set_in b) p []) o) ∙ ap not (covered_slot (set_in b) f.copied p o h)

  -- one object marks what it does on paper
  object_mark : (p q t o : ℕ) → o < length (get_or (set_in b) p []) → object_marks b starts table dest p o t q ≡ marks (set_in b) (placing b l) p q t o
  unfolding object_marks closure_marks row_at
  object_mark p q t o h =
      let S = set_in b in
      let g = get_or starts p 0 + o in
      let k = name_of_row (row S p o) in
      let bare = eqb (get_or table g 0) 0 in
      let top = not (covered S p k) in
      let cl = slot_closure (row S p o).dim (get_or S p []) o in
      let cl' = by_slots.slot_closure (row S p o).dim (get_or S p []) o in
      let same : cl ≡ cl' = one-closure (row S p o).dim (get_or S p []) o in
      let goes : T bare → get_or dest g 0 ≡ placing b l k = λ z. destined.entry p o h (eqb→eq (get_or table g 0) 0 z) in
      iff_eq (bare && (member t cl && eqb q (get_or dest g 0))) (top && eqb (placing b l k) q && member t cl')
      (λ z. let v = split2 bare (member t cl && eqb q (get_or dest g 0)) z in
      let w = split2 (member t cl) (eqb q (get_or dest g 0)) v.1 in
      join3 top (eqb (placing b l k) q) (member t cl')
      (subst T (open_row p o h) v.0, eq-eqb (placing b l k) q (sym (goes v.0) ∙ sym (eqb→eq q (get_or dest g 0) w.1)), subst (λ (xs : List ℕ). T (member t xs)) same w.0))
      (λ z. let v = split3 top (eqb (placing b l k) q) (member t cl') z in
      let bare' : T bare = subst T (sym (open_row p o h)) v.0 in
      join2 bare (member t cl && eqb q (get_or dest g 0)) (
        bare',
        join2 (member t cl) (eqb q (get_or dest g 0))
            (subst (λ (xs : List ℕ). T (member t xs)) (sym same) v.2, eq-eqb q (get_or dest g 0) (sym (goes bare' ∙ eqb→eq (placing b l k) q v.1))),
      ))

  -- a slot is marked as on paper
  pub part-marks : (p t q : ℕ) → part_marks b starts table dest p t q ≡ marked (set_in b) (placing b l) p q t
  unfolding part_marks marked
  part-marks p t q =
      let rows = up_to (length (get_or (set_in b) p [])) in
      some_same (λ o. object_marks b starts table dest p o t q) (marks (set_in b) (placing b l) p q t) rows
      (λ o i. object_mark p q t o (up_to_in (length (get_or (set_in b) p [])) o i))

-- no slot is marked with what is no part
module _ (b l : List ℕ) {n : ℕ} (f : Sound (set_in b)) (well : WellPlaced n (mesh b) (placing b l)) where
  placed_lt : (o : Entity) → In o (objects (mesh b)) → placing b l (name o) < n
  unfolding places_of
  placed_lt o i =
      ltb→lt (placing b l (name o)) n
      (every_in (λ q. ltb q n) (map (λ e. placing b l (name e)) (objects (mesh b))) well.placed (placing b l (name o)) (in_map (λ e. placing b l (name e)) (objects (mesh b)) o i))

  pub marked_lt : (p q t : ℕ) → T (marked (set_in b) (placing b l) p q t) → q < n
  unfolding marked ent_of
  marked_lt p q t z =
      let S = set_in b in
      let w = some_in (marks S (placing b l) p q t) (up_to (length (get_or S p []))) z in
      let o = w.0 in
      let h = up_to_in (length (get_or S p [])) o w.1 in
      let k = name_of_row (row S p o) in
      let v = split3 (not (covered S p k)) (eqb (placing b l k) q) (member t (by_slots.slot_closure (row S p o).dim (get_or S p []) o)) w.2 in
      let m : In (ent S p o) (mesh b) = in_mesh (parts_of S) (sound_fit S f) p (ent S p o) (in_part_lem S p o h) in
      let i : In (ent S p o) (objects (mesh b)) = in_objects (mesh b) (ent S p o) m (subst T (sym (row_is_object S f p o h)) v.0) in
      subst (λ (x : ℕ). x < n) (eqb→eq (placing b l k) q v.1) (placed_lt (ent S p o) i)
