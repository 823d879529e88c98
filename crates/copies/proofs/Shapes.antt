-- Boundaries compared by the keys of the rows that they name; and what makes two rows copies of each other. Assumes nothing.
use Prim.Native.Nat.{ℕ, zero, suc, ◌+◌, ◌*◌, ◌≤◌, ◌<◌}
use native.Mathlib.Nat.{not-suc-le-zero}
use native.Mathlib.Omega.{arith}
use mathlib.Core.Path.{◌≡◌, refl, sym, ap, ap₂, ◌∙◌, subst}
use mathlib.Core.Bool.{Bool, true, false, ◌&&◌, and-true, and-false}
use mathlib.Core.List.{List, []}
use lib.ListN.{length, get_or, length-map}
use lib.Seq.{ext_get_or}
use lib.Dec.{T, eqb, eqb→eq}
use Rattle.laws.specs.Lists.{every, up_to, same}
use Rattle.laws.proofs.Tests.{iff_eq, eq-eqb}
use Rattle.laws.proofs.Members.{get_or_in, every_in, in_every}
use Rattle.laws.proofs.Ranges.{in_up_to, up_to_in}
use Rattle.laws.proofs.Agree.{get_or_map}
use Rattle.laws.proofs.Same.{same_eq, same_refl}
use Rattle.field.specs.Bytes.{u8_at, u32_at, words, longs}
use Rattle.field.proofs.Reading.{length-words}
use Rattle.paper.specs.Image.{Row, Set, no_row, row_at}
use Rattle.paper.specs.Mesh.{name_of, slots_of, shape_of, ent_of, same_ent}
use Rattle.paper.specs.Sound.{name_of_row}
use Rattle.index.specs.Index.{row_from, set_in}
use Rattle.index.proofs.RowFields.{row_dim, row_word}
use Rattle.copies.specs.Copies.{Ready, are_same_fields, NameCompared, face_key, faces_agree, shapes_agree, ShapeThere, is_same_copy}
use Rattle.rows.proofs.Laws.{row_there}
use Rattle.copies.proofs.Placed.{row-faces, boundary_passed, Stands, room_48, fits}

pub shapes-faces : (b keys : List ℕ) (first o first' o' d : ℕ) → 0 < d → shapes_agree b keys first o first' o' d ≡ faces_agree b keys first o first' o' d
unfolding shapes_agree
shapes-faces b keys first o first' o' zero h = absurd (not-suc-le-zero h)
shapes-faces b keys first o first' o' (suc d) h = refl

pub shapes_points : (b keys : List ℕ) (first o first' o' d : ℕ) → d ≡ 0
    → same (longs 3 (row_from b o).body) (longs 3 (row_from b o').body) ≡ shapes_agree b keys first o first' o' d
unfolding shapes_agree
shapes_points b keys first o first' o' d e = sym (ap (shapes_agree b keys first o first' o') e)

module _ {b offs starts keys : List ℕ} (ready : Ready b offs starts keys) where
  -- ---- the boundary of a row

  module _ {p s o : ℕ} (st : Stands b p s o) (d : ℕ) (is : (row_at (set_in b) p s).dim ≡ suc d) (i : ℕ) (h : i < suc (suc d)) where
    -- the slots that the body names
    abbrev face_slots : List ℕ
    face_slots = words (suc (suc d)) (row_at (set_in b) p s).body

    slot_there : i < length face_slots
    slot_there = omega (arith, length-words (suc (suc d)) (row_at (set_in b) p s).body)

    slot_read : get_or face_slots i 0 ≡ u32_at b (o + 24 + 4 * i)
    slot_read =
        ap (λ (r : Row). get_or (words (suc (suc d)) r.body) i 0) st.row ∙ row_word b o (suc (suc d)) i h (omega (arith, is, (fits ready st).dim))

    face_ok : (u32_at b (o + 24 + 4 * i) < length (get_or (set_in b) p [])) × ((get_or (get_or (set_in b) p []) (u32_at b (o + 24 + 4 * i)) no_row).dim ≡ d)
    face_ok =
        subst (λ (f : ℕ). (f < length (get_or (set_in b) p [])) × ((get_or (get_or (set_in b) p []) f no_row).dim ≡ d)) slot_read
        ((row-faces (set_in b) (boundary_passed ready) p s d st.there is).there (get_or face_slots i 0) (get_or_in face_slots i 0 slot_there))

    face_lt : get_or starts p 0 + u32_at b (o + 24 + 4 * i) < length keys
    face_lt = omega (arith, row_there ready.index p (u32_at b (o + 24 + 4 * i)) face_ok.0, ready.names.room)

    face_key_lem : face_key b keys (get_or starts p 0) o i ≡ name_of d (get_or (shape_of (get_or (set_in b) p []) (suc d) (row_at (set_in b) p s).body) i 0)
    unfolding shape_of slots_of row_at
    face_key_lem =
        let rows = get_or (set_in b) p [] in
        ready.names.key p (u32_at b (o + 24 + 4 * i)) face_ok.0
        ∙ ap₂ (λ (x y : ℕ). name_of x y) face_ok.1
        (sym (get_or_map (λ (f : ℕ). (get_or rows f no_row).number) face_slots i 0 0 slot_there ∙ ap (λ (f : ℕ). (get_or rows f no_row).number) slot_read))

  -- the rows that a boundary names have keys
  there_at : {p s o : ℕ} → Stands b p s o → (d : ℕ) → (row_at (set_in b) p s).dim ≡ d → (i : ℕ) → 0 < d → i ≤ d → get_or starts p 0 + u32_at b (o + 24 + 4 * i) < length keys
  there_at st zero is i pos le = absurd (not-suc-le-zero pos)
  there_at st (suc d) is i pos le = face_lt st d is i (omega arith)

  pub shape_there : {p s o : ℕ} → Stands b p s o → (first d : ℕ) → first ≡ get_or starts p 0 → (row_at (set_in b) p s).dim ≡ d → ShapeThere b keys first o d
  shape_there st first d e is =
      record { room = room_48 ready st; few = omega (arith, is, (fits ready st).dim); faces = λ i pos le. omega (arith, e, there_at st d is i pos le) }

  shape_length : (p s d : ℕ) → length (shape_of (get_or (set_in b) p []) (suc d) (row_at (set_in b) p s).body) ≡ suc (suc d)
  unfolding shape_of slots_of
  shape_length p s d =
      let rows = get_or (set_in b) p [] in
      let slots = words (suc (suc d)) (row_at (set_in b) p s).body in
      length-map slots (λ (f : ℕ). (get_or rows f no_row).number) ∙ length-words (suc (suc d)) (row_at (set_in b) p s).body

  -- equal keys are equal numbers
  module _ {p s o q t o' : ℕ} (st : Stands b p s o) (st' : Stands b q t o') where
    abbrev shapes_same : ℕ → Bool
    shapes_same d = same (shape_of (get_or (set_in b) p []) d (row_at (set_in b) p s).body) (shape_of (get_or (set_in b) q []) d (row_at (set_in b) q t).body)

    shapes_at : (d : ℕ) → (row_at (set_in b) p s).dim ≡ d → (row_at (set_in b) q t).dim ≡ d → shapes_agree b keys (get_or starts p 0) o (get_or starts q 0) o' d ≡ shapes_same d
    unfolding shapes_agree faces_agree shape_of
    shapes_at zero is is' = ap₂ (λ (r w : Row). same (longs 3 r.body) (longs 3 w.body)) (sym st.row) (sym st'.row)
    shapes_at (suc d) is is' =
        let xs = shape_of (get_or (set_in b) p []) (suc d) (row_at (set_in b) p s).body in
        let ys = shape_of (get_or (set_in b) q []) (suc d) (row_at (set_in b) q t).body in
        let key : ℕ → ℕ = face_key b keys (get_or starts p 0) o in
        let key' : ℕ → ℕ = face_key b keys (get_or starts q 0) o' in
        let test : ℕ → Bool = λ i. eqb (key i) (key' i) in
        let long = shape_length p s d in
        iff_eq (every test (up_to (suc d + 1))) (same xs ys)
        (λ w.
        let e : xs ≡ ys = ext_get_or 0 xs ys (long ∙ sym (shape_length q t d))
        (λ i l.
        let h : i < suc (suc d) = omega (arith, long) in
        let k = eqb→eq (key i) (key' i) (every_in test (up_to (suc d + 1)) w i (in_up_to (suc d + 1) i (omega arith))) in
        omega (arith, k, face_key_lem st d is i h, face_key_lem st' d is' i h)) in
        subst (λ (l : List ℕ). T (same xs l)) e (same_refl xs))
        (λ w.
        let e = same_eq xs ys w in
        in_every test (up_to (suc d + 1))
        (λ i m.
        let h : i < suc (suc d) = omega (arith, up_to_in (suc d + 1) i m) in
        eq-eqb (key i) (key' i) (face_key_lem st d is i h ∙ ap (λ (l : List ℕ). name_of d (get_or l i 0)) e ∙ sym (face_key_lem st' d is' i h))))

-- ---- the tests of a copy, in the order in which they are made

regroup : (n k v s m o : Bool) → (n && k && v && s && m && o) ≡ (n && (k && v && m && o) && s)
regroup true true true true m o = sym (and-true (m && o))
regroup true true true false m o = sym (and-false (m && o))
regroup true true false s m o = refl
regroup true false v s m o = refl
regroup false k v s m o = refl

copy_tests : (S : Set) (p s q t : ℕ) → let r = row_at S p s in let w = row_at S q t in
    is_same_copy S p s q t
    ≡ (eqb (name_of_row r) (name_of_row w) && are_same_fields r w && same (shape_of (get_or S p []) r.dim r.body) (shape_of (get_or S q []) w.dim w.body))
unfolding is_same_copy same_ent ent_of are_same_fields
copy_tests S p s q t =
    let r = row_at S p s in
    let w = row_at S q t in
    regroup (eqb (name_of_row r) (name_of_row w)) (eqb r.kind w.kind) (eqb r.value w.value)
    (same (shape_of (get_or S p []) r.dim r.body) (shape_of (get_or S q []) w.dim w.body)) (eqb r.mask w.mask) (eqb r.owner w.owner)

module _ {b offs starts keys : List ℕ} (ready : Ready b offs starts keys) {p s o q t o' : ℕ} (st : Stands b p s o) (st' : Stands b q t o') where
  abbrev shapes : Bool
  shapes = same (shape_of (get_or (set_in b) p []) (row_at (set_in b) p s).dim (row_at (set_in b) p s).body) (shape_of (get_or (set_in b) q []) (row_at (set_in b) q t).dim (row_at (set_in b) q t).body)

  -- by the rows at the two offsets
  copy_read : (name fields : Bool) → NameCompared (row_from b o) (row_from b o') name → fields ≡ are_same_fields (row_from b o) (row_from b o')
      → is_same_copy (set_in b) p s q t ≡ (name && fields && shapes)
  copy_read name fields n f =
      copy_tests (set_in b) p s q t
      ∙ ap₂ (λ (x y : Bool). x && y && shapes)
      (ap₂ (λ (r w : Row). eqb (name_of_row r) (name_of_row w)) st.row st'.row ∙ sym n.is) (ap₂ are_same_fields st.row st'.row ∙ sym f)

  pub other_name : (name : Bool) → NameCompared (row_from b o) (row_from b o') name → name ≡ false → false ≡ is_same_copy (set_in b) p s q t
  other_name name n e =
      sym (copy_read name (are_same_fields (row_from b o) (row_from b o')) n refl ∙ ap (λ (x : Bool). x && are_same_fields (row_from b o) (row_from b o') && shapes) e)

  pub other_fields : (name fields : Bool) → NameCompared (row_from b o) (row_from b o') name → fields ≡ are_same_fields (row_from b o) (row_from b o')
      → name ≡ true → fields ≡ false → false ≡ is_same_copy (set_in b) p s q t
  other_fields name fields n f e g = sym (copy_read name fields n f ∙ ap₂ (λ (x y : Bool). x && y && shapes) e g)

  -- the dimension that is read is that of both
  module _ (name : Bool) (n : NameCompared (row_from b o) (row_from b o') name) (yes : name ≡ true) {d : ℕ} (read : d ≡ u8_at b (o + 4)) where
    pub dim_here : (row_at (set_in b) p s).dim ≡ d
    dim_here = ap (λ (r : Row). r.dim) st.row ∙ row_dim b o ∙ sym read

    pub dim_there : (row_at (set_in b) q t).dim ≡ d
    dim_there = ap (λ (r : Row). r.dim) st'.row ∙ sym (n.dims yes) ∙ sym (ap (λ (r : Row). r.dim) st.row) ∙ dim_here

    pub copy_shapes : (fields shape : Bool) {first first' : ℕ} → fields ≡ are_same_fields (row_from b o) (row_from b o') → fields ≡ true
        → first ≡ get_or starts p 0 → first' ≡ get_or starts q 0 → shape ≡ shapes_agree b keys first o first' o' d → shape ≡ is_same_copy (set_in b) p s q t
    copy_shapes fields shape f g e e' h =
        h ∙ ap₂ (λ (x y : ℕ). shapes_agree b keys x o y o' d) e e' ∙ shapes_at ready st st' d dim_here dim_there
        ∙ ap₂ (λ (x y : ℕ). same (shape_of (get_or (set_in b) p []) x (row_at (set_in b) p s).body) (shape_of (get_or (set_in b) q []) y (row_at (set_in b) q t).body)) (sym dim_here) (sym dim_there)
        ∙ sym (copy_read name fields n f ∙ ap₂ (λ (x y : Bool). x && y && shapes) yes g)
