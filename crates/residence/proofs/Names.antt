-- A row is covered by slot where it is by name: names ascend, and slots name rows of the dimension below. Assumes nothing.
use Prim.Native.Nat.{ℕ, zero, suc, ◌<◌}
use native.Mathlib.Omega.{arith}
use mathlib.Core.Path.{◌≡◌, refl, sym, ap, ◌∙◌}
use mathlib.Core.List.{List, [], map}
use lib.ListN.{length, get_or, length-map}
use lib.Dec.{T, eqb, ltb, ltb→lt, eqb→eq}
use Rattle.laws.specs.Lists.{In, some?, ascending, member}
use Rattle.laws.proofs.Tests.{split2}
use Rattle.laws.proofs.Members.{in_get_or}
use Rattle.laws.proofs.Agree.{map_same, map_of_map, get_or_map, some_same}
use Rattle.laws.proofs.Ascending.{asc_get_or}
use Rattle.laws.proofs.Increasing.{member_after}
use Rattle.paper.specs.Image.{Row, Set, no_row, row_at}
use Rattle.paper.specs.Mesh.{name_of, face_names, faces, slots_of, shape_of, ent_of, bounds}
use Rattle.paper.specs.Sound.{name_of_row, slots_stand}
use Rattle.demands.proofs.Sound.Facts.{Copied}
use Rattle.demands.proofs.Sound.Rows.{rows_ascend}
use Rattle.demands.proofs.ForCode.Covered.{covered}
use Rattle.residence.specs.Tables.{slot_covered}
use Rattle.residence.proofs.covered.Parts.{row_slots_stand, slot_stands}

module _ (rows : List Row) (ascends : T (ascending (map name_of_row rows))) where
  nm : ℕ → ℕ
  nm t = name_of_row (get_or rows t no_row)

  nm_up : (s t : ℕ) → s < length rows → t < length rows → s < t → nm s < nm t
  unfolding nm
  nm_up s t hs ht h =
      omega (arith, asc_get_or (map name_of_row rows) ascends s t h (omega (arith, length-map rows name_of_row)), get_or_map name_of_row rows s no_row 0 hs, get_or_map name_of_row rows t no_row 0 ht)

  -- the names of the faces are those of the slots
  face_slots_lem : (s d : ℕ) (body : List ℕ) → s < length rows → ((t : ℕ) → In t (slots_of d body) → (t < length rows) × (suc (get_or rows t no_row).dim ≡ d))
      → member s (slots_of d body) ≡ member (nm s) (face_names d (shape_of rows d body))
  unfolding slots_of face_names shape_of nm member some?
  face_slots_lem s zero body h ok = refl
  face_slots_lem s (suc d) body h ok =
      let fs = slots_of (suc d) body in
      sym (ap (member (nm s)) (map_of_map (name_of d) (λ t. (get_or rows t no_row).number) fs
      ∙ map_same (λ t. name_of d (get_or rows t no_row).number) nm fs (λ t i. let e : d ≡ (get_or rows t no_row).dim = omega (arith, (ok t i).1) in ap (λ (k : ℕ). name_of k (get_or rows t no_row).number) e))
      ∙ member_after (λ t. t < length rows) nm nm_up s fs h (λ t i. (ok t i).0))

  slot_name : ((r : Row) → In r rows → T (slots_stand rows r)) → (s : ℕ) → s < length rows → slot_covered rows s ≡ some? (λ r. bounds (nm s) (ent_of rows r)) rows
  unfolding slot_covered faces ent_of
  slot_name all s h =
      some_same (λ r. member s (slots_of r.dim r.body)) (λ r. bounds (nm s) (ent_of rows r)) rows (λ r i.
      face_slots_lem s r.dim r.body h (λ t j.
      let w = split2 (ltb t (length rows)) (eqb (suc (get_or rows t no_row).dim) r.dim) (slot_stands rows r (all r i) t j) in
      (ltb→lt t (length rows) w.0, eqb→eq (suc (get_or rows t no_row).dim) r.dim w.1)))

module _ (S : Set) (f : Copied S) where
  -- a slot is covered where its row's name is
  pub covered_slot : (q t : ℕ) → t < length (get_or S q []) → slot_covered (get_or S q []) t ≡ covered S q (name_of_row (get_or (get_or S q []) t no_row))
  unfolding covered nm row_at
  covered_slot q t h =
      slot_name (get_or S q []) (rows_ascend (get_or S q []) (f.order q)) (λ r i.
      let w = in_get_or (get_or S q []) r no_row i in
      rw w.2 (row_slots_stand (get_or S q []) (get_or (get_or S q []) w.0 no_row) (f.boundary q w.0 w.1))) t h
