-- What rules 7 and 9 say of a row and of the rows that it names. Assumes nothing.
use Prim.Native.Nat.{ℕ, zero, suc, ◌+◌, ◌-◌, ◌*◌, ◌≤◌, ◌<◌}
use native.Mathlib.Nat.{not-suc-le-zero}
use native.Mathlib.Numerals.{add-one}
use native.Mathlib.Omega.{arith}
use mathlib.Core.Path.{◌≡◌, refl, sym, ap, ◌∙◌, subst}
use mathlib.Core.List.{List, []}
use lib.ListN.{length, get_or}
use lib.Dec.{eqb, ltb, ltb→lt, eqb→eq}
use Rattle.laws.specs.Lists.{In}
use Rattle.laws.proofs.Tests.{split2}
use Rattle.laws.proofs.Members.{get_or_in}
use Rattle.field.specs.Bytes.{u8_at, u32_at}
use Rattle.field.proofs.Reading.{length-words}
use Rattle.paper.specs.Image.{Row, no_row, row_at}
use Rattle.paper.specs.Mesh.{slots_of}
use Rattle.index.specs.Index.{set_in, row_from}
use Rattle.index.proofs.RowFields.{row_dim, row_word}
use Rattle.paper.specs.Sound.{judged}
use Rattle.residence.specs.Marks.{slots_named}
use Rattle.rows.proofs.Laws.{part_room, part_there, offset_there}
use Rattle.residence.proofs.covered.Parts.{row_slots_stand, slot_stands, row_asked}
use Rattle.demands.proofs.Sound.Rows.{fields_of}
use Rattle.marks.specs.Closures.{RowKnown, Markable, Closed}

-- ---- the slots of a body

slots_few : (d : ℕ) (body : List ℕ) → length (slots_of d body) ≤ d + 1
unfolding slots_of
slots_few zero body = omega arith
slots_few (suc d) body = omega (arith, length-words (suc (suc d)) body)

slots-count : (d : ℕ) (body : List ℕ) → (d ≡ 0 → ⊥) → length (slots_of d body) ≡ d + 1
unfolding slots_of
slots-count zero body h = absurd (h refl)
slots-count (suc d) body h = length-words (suc (suc d)) body ∙ sym (add-one (suc d))

slots_word : (b : List ℕ) (at d i : ℕ) → d ≤ 3 → i < length (slots_of d (row_from b at).body) → get_or (slots_of d (row_from b at).body) i 0 ≡ u32_at b (at + 24 + 4 * i)
unfolding slots_of
slots_word b at zero i few h = absurd (not-suc-le-zero h)
slots_word b at (suc d) i few h = row_word b at (suc (suc d)) i (omega (arith, length-words (suc (suc d)) (row_from b at).body)) (omega arith)

-- ---- a row that is there

module _ {b offs starts : List ℕ} {p s : ℕ} (k : RowKnown b offs starts p s) where
  abbrev rows : List Row
  rows = get_or (set_in b) p []

  abbrev row : Row
  row = row_at (set_in b) p s

  pub low : (row_at (set_in b) p s).dim ≤ 3
  unfolding judged
  low = (fields_of (length (set_in b)) p row (k.readable.fields p s k.here)).dim

  pub known_asked : (p < length starts) × (get_or starts p 0 + s < length offs)
  known_asked = row_asked k.readable.index p s k.here

  -- it has an entry in a table of as many entries as there are rows
  pub known_room : {l : ℕ} → get_or starts (length (set_in b)) 0 ≤ l → get_or starts p 0 + s < l
  known_room h = omega (arith, part_room k.readable.index p (part_there k.readable.index p s k.here), k.here)

  module _ {at : ℕ} (e : at ≡ get_or offs (get_or starts p 0 + s) 0) where
    pub known_read : (at + 48 ≤ length b) × (length b ≤ 1048576)
    known_read = (omega (arith, e, offset_there k.readable.index p s k.here), k.readable.index.small)

    is_row : row ≡ row_from b at
    is_row = k.readable.index.row p s k.here ∙ ap (row_from b) (sym e)

    pub dim_read : (row_at (set_in b) p s).dim ≡ u8_at b (at + 4)
    dim_read = ap (λ (r : Row). r.dim) is_row ∙ row_dim b at

    module _ {i : ℕ} (h : i < length (slots_named (row_at (set_in b) p s))) where
      pub slot-near : i ≤ 3
      slot-near = omega (arith, slots_few row.dim row.body, low, h)

      pub slot_read : {r : ℕ} → r ≡ u32_at b (at + 24 + 4 * i) → r ≡ get_or (slots_named (row_at (set_in b) p s)) i 0
      slot_read f =
          f ∙ sym (slots_word b at (row_from b at).dim i (subst (λ (r : Row). r.dim ≤ 3) is_row low) (subst (λ (r : Row). i < length (slots_named r)) is_row h))
          ∙ ap (λ (r : Row). get_or (slots_named r) i 0) (sym is_row)

  pub named_count : {d : ℕ} → (row_at (set_in b) p s).dim ≡ d → (d ≡ 0 → ⊥) → length (slots_named (row_at (set_in b) p s)) ≡ d + 1
  named_count {d} e h = slots-count row.dim row.body (λ z. h (sym e ∙ z)) ∙ ap (λ (x : ℕ). x + 1) e

  -- what it names is a row of its part, of the dimension below
  pub face_known : {f : ℕ} → In f (slots_named (row_at (set_in b) p s)) → (f < length (get_or (set_in b) p [])) × (suc (row_at (set_in b) p f).dim ≡ (row_at (set_in b) p s).dim)
  unfolding judged row_at
  face_known {f} i =
      let w = split2 (ltb f (length rows)) (eqb (suc (get_or rows f no_row).dim) row.dim) (slot_stands rows row (row_slots_stand rows row (k.readable.boundary p s k.here)) f i) in
      (ltb→lt f (length rows) w.0, eqb→eq (suc (get_or rows f no_row).dim) row.dim w.1)

-- what the closure of an entry of the boundary wants
pub face_markable : {b offs starts : List ℕ} {p s d q : ℕ} {w : List ℕ} → Markable b offs starts p s d q w → (d ≡ 0 → ⊥) → (i f : ℕ) (w' : List ℕ) → i ≤ d
    → f ≡ get_or (slots_named (row_at (set_in b) p s)) i 0 → length w' ≡ length w → Closed b starts p w' → Markable b offs starts p f (d - 1) q w'
face_markable {b} {offs} {starts} {p} {s} {d} {q} {w} m solid i f w' l e long closed =
    let fs = slots_named (row_at (set_in b) p s) in
    let there : i < length fs = omega (arith, named_count m.known m.dim solid) in
    let k = face_known m.known (subst (λ (x : ℕ). In x fs) (sym e) (get_or_in fs i 0 there)) in
    record {
      known = record { readable = m.known.readable; here = k.0 };
      dim = omega (arith, k.1, m.dim);
      part = m.part;
      room = omega (arith, m.room, long);
      closed = closed;
    }
