-- A row of an image by its offset, and what the rules before the copies say of it. Assumes nothing.
use Prim.Native.Nat.{ℕ, suc, ◌+◌, ◌^◌, ◌≤◌, ◌<◌}
use native.Mathlib.Omega.{arith}
use mathlib.Core.Path.{◌≡◌, sym, ap, ◌∙◌, subst}
use mathlib.Core.List.{List, [], map}
use lib.ListN.{length, get_or}
use lib.Dec.{T, eqb, ltb, leb, leb→le, ltb→lt, lit<}
use Rattle.laws.specs.Lists.{In}
use Rattle.laws.proofs.Tests.{and_l, split8}
use Rattle.field.specs.Bytes.{words}
use Rattle.part_set.specs.Masks.{has, others}
use Rattle.part_set.proofs.MaskParts.{has_lt, others_in}
use Rattle.paper.specs.Image.{Row, Set, row_length_of, row_at}
use Rattle.paper.specs.Mesh.{shape_of, ent_of, simplex}
use Rattle.paper.specs.Sound.{value_fitting, body_fitting, fields_fit, slots_stand, boundary_stands}
use Rattle.demands.proofs.Sound.Slots.{SlotsOk, slots_of_lem}
use Rattle.index.specs.Index.{row_from, set_in}
use Rattle.index.proofs.RowFields.{row_long_enough}
use Rattle.paper.specs.declared.Rule.TheVariants.{Fields, Order, Boundary}
use Rattle.paper.specs.Sound.{judged}
use Rattle.demands.specs.Passed.{Passed}
use Rattle.copies.specs.Copies.{Ready}
use Rattle.rows.specs.Values.{RowValueStands}
use Rattle.rows.proofs.Laws.{part_there, row_there}

-- ---- rule 7, as far as it is used here

pub record RowFits (n p : ℕ) (r : Row) : Type 0 where
  pub dim : r.dim ≤ 3
  pub mask : r.mask < 2 ^ n
  pub own : T (has r.mask p)
  pub value : RowValueStands r

fits_of : (n p : ℕ) (r : Row) → T (fields_fit n p r) → RowFits n p r
unfolding fields_fit
fits_of n p r t =
    let w = split8 (leb r.dim 3) (ltb r.owner n) (leb r.kind 2) (eqb r.pad 0) (ltb r.mask (2 ^ n)) (has r.mask p)
    (value_fitting r.kind r.value) (body_fitting r.dim r.body) t in
    record { dim = leb→le r.dim 3 w.0; mask = ltb→lt r.mask (2 ^ n) w.4; own = w.5; value = record { few = leb→le r.kind 2 w.2; fits = w.6 } }

pub row_fits : (S : Set) → Passed Fields S → (p s : ℕ) → s < length (get_or S p []) → RowFits (length S) p (row_at S p s)
unfolding judged
row_fits S passed p s h = fits_of (length S) p (row_at S p s) (passed p s h)

-- ---- rule 9, as far as it is used here

pub row-faces : (S : Set) → Passed Boundary S → (p s d : ℕ) → s < length (get_or S p []) → (row_at S p s).dim ≡ suc d
    → SlotsOk (get_or S p []) d (words (suc (suc d)) (row_at S p s).body)
unfolding judged boundary_stands
row-faces S passed p s d h e =
    let rows = get_or S p [] in
    let r = row_at S p s in
    slots_of_lem rows r d e (and_l (slots_stand rows r) (simplex (map (ent_of rows) rows) r.dim r.number (shape_of rows r.dim r.body)) (passed p s h))

-- ---- offsets

-- row s of part p stands at o
pub record Stands (b : List ℕ) (p s o : ℕ) : Type 0 where
  pub there : s < length (get_or (set_in b) p [])
  pub row : row_at (set_in b) p s ≡ row_from b o
  pub room : o + row_length_of (row_at (set_in b) p s).mask ≤ length b

module _ {b offs starts keys : List ℕ} (ready : Ready b offs starts keys) where
  pub fields_passed : Passed Fields (set_in b)
  fields_passed = ready.passed Fields (lit< tt)

  pub order_passed : Passed Order (set_in b)
  order_passed = ready.passed Order (lit< tt)

  pub boundary_passed : Passed Boundary (set_in b)
  boundary_passed = ready.passed Boundary (lit< tt)

  -- what the tables are asked for is there
  pub offset_asked : (p s : ℕ) → s < length (get_or (set_in b) p []) → (p < length starts) × (get_or starts p 0 + s < length offs)
  offset_asked p s h =
      (omega (arith, part_there ready.index p s h, ready.index.few, ready.index.starts_room), omega (arith, row_there ready.index p s h, ready.index.offs_room))

  pub stands : (p s o : ℕ) → s < length (get_or (set_in b) p []) → o ≡ get_or offs (get_or starts p 0 + s) 0 → Stands b p s o
  stands p s o h e = record {
    there = h;
    row = ready.index.row p s h ∙ ap (row_from b) (sym e);
    room = omega (arith, e, ready.index.there p s h);
  }

  module _ {p s o : ℕ} (st : Stands b p s o) where
    pub room_48 : o + 48 ≤ length b
    room_48 = omega (arith, st.room, row_long_enough (row_at (set_in b) p s).mask)

    pub fits : RowFits (length (set_in b)) p (row_at (set_in b) p s)
    fits = row_fits (set_in b) fields_passed p s st.there

    pub value_stands : RowValueStands (row_from b o)
    value_stands = subst RowValueStands st.row fits.value

    pub own_lt : p < length (set_in b)
    own_lt = has_lt (length (set_in b)) (row_at (set_in b) p s).mask p fits.mask fits.own

    -- another part of the residence set is there
    pub other_lt : (q : ℕ) → In q (others (row_at (set_in b) p s).mask p) → q < length (set_in b)
    other_lt q i = has_lt (length (set_in b)) (row_at (set_in b) p s).mask q fits.mask (others_in (row_at (set_in b) p s).mask p q i).1
