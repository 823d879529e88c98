-- The remote slots of a row, and the copy that each names. Assumes nothing.
use Prim.Native.Nat.{ℕ, ◌+◌, ◌-◌, ◌*◌, ◌≤◌, ◌<◌}
use native.Mathlib.Omega.{arith}
use mathlib.Core.Path.{◌≡◌, refl, sym, ap, ap₂, ◌∙◌, subst}
use mathlib.Core.Bool.{Bool, true, false, ◌&&◌}
use mathlib.Core.List.{List, []}
use lib.ListN.{length, get_or}
use lib.Dec.{T, eqb, ltb, eqb→eq}
use borrow.Author.Tests.{le-ltb, lt-ltb}
use Rattle.laws.specs.Lists.{In, every, index_of}
use Rattle.laws.proofs.Tests.{T_true, true_T, and_l, and_r}
use Rattle.field.specs.Bytes.{u32_at, u64_at}
use Rattle.part_set.specs.Masks.{has, parts_in, others, count}
use Rattle.part_set.proofs.MaskParts.{others_in}
use Rattle.paper.specs.Image.{Row, Set, remotes, row_length_of, row_at}
use Rattle.paper.specs.Mesh.{same_ent, ent_of}
use Rattle.paper.specs.Sound.{remote_slot_of, twin_agrees}
use Rattle.index.specs.Index.{row_from, set_in}
use Rattle.index.proofs.RowFields.{row_mask, row_slot, row-length, row_long_enough}
use Rattle.copies.specs.Copies.{twins_agree}
use Rattle.copies.specs.Copies.{Ready, TwinAsked, is_same_copy, RemoteThere}
use Rattle.rows.proofs.Laws.{part-rows}
use Rattle.copies.proofs.Placed.{Stands, stands, fits, own_lt, other_lt}

-- ---- a remote slot, read

module _ {b : List ℕ} {o own other : ℕ} (there : RemoteThere b o own other) where
  pub mask_room : o + 16 ≤ length b
  mask_room = omega (arith, there.room, row_long_enough (row_from b o).mask)

  module _ {mask : ℕ} (read : mask ≡ u64_at b (o + 8)) where
    mask_is : mask ≡ (row_from b o).mask
    mask_is = read ∙ sym (row_mask b o)

    pub place_asked : (own < 64) × (other < 64) × (has mask own ≡ true) × (has mask other ≡ true) × (other ≡ own → ⊥)
    place_asked =
        (there.own_lt, there.other_lt, ap (λ (m : ℕ). has m own) mask_is ∙ there.own_in, ap (λ (m : ℕ). has m other) mask_is ∙ there.other_in, there.differ)

    module _ {i : ℕ} (at : i ≡ index_of other (others mask own)) (lt : i < count mask - 1) where
      slot-few : i < remotes (row_from b o).mask
      unfolding remotes
      slot-few = subst (λ (m : ℕ). i < count m - 1) mask_is lt

      pub slot-room : o + 48 + 4 * i + 4 ≤ length b
      slot-room = omega (arith, there.room, row-length (row_from b o).mask, slot-few)

      pub slot_is : u32_at b (o + 48 + 4 * i) ≡ remote_slot_of (row_from b o) own other
      unfolding remote_slot_of
      slot_is =
          sym (row_slot b o i slot-few)
          ∙ ap (λ (j : ℕ). get_or (row_from b o).slots j 0) (at ∙ ap (λ (m : ℕ). index_of other (others m own)) mask_is)

-- ---- the tests of a twin, in the order in which they are made

regroup : (l e m o back : Bool) → (l && e && m && o && back) ≡ (l && (e && m && o) && back)
regroup true e m o back = refl
regroup false e m o back = refl

twin-tests : (S : Set) (p s q t : ℕ) → t ≡ remote_slot_of (row_at S p s) p q
    → twin_agrees S p s q ≡ (ltb t (length (get_or S q [])) && is_same_copy S p s q t && eqb (remote_slot_of (row_at S q t) q p) s)
unfolding twin_agrees is_same_copy
twin-tests S p s q t e =
    let u = remote_slot_of (row_at S p s) p q in
    regroup (ltb u (length (get_or S q []))) (same_ent (ent_of (get_or S p []) (row_at S p s)) (ent_of (get_or S q []) (row_at S q u)))
    (eqb (row_at S p s).mask (row_at S q u).mask) (eqb (row_at S p s).owner (row_at S q u).owner) (eqb (remote_slot_of (row_at S q u) q p) s)
    ∙ ap (λ (t : ℕ). ltb t (length (get_or S q [])) && is_same_copy S p s q t && eqb (remote_slot_of (row_at S q t) q p) s) (sym e)

-- copies have one residence set
copy_mask : (S : Set) (p s q t : ℕ) → T (is_same_copy S p s q t) → (row_at S p s).mask ≡ (row_at S q t).mask
unfolding is_same_copy
copy_mask S p s q t h =
    let r = row_at S p s in
    let w = row_at S q t in
    let e = same_ent (ent_of (get_or S p []) r) (ent_of (get_or S q []) w) in
    eqb→eq r.mask w.mask (and_r e (eqb r.mask w.mask) (and_l (e && eqb r.mask w.mask) (eqb r.owner w.owner) h))

-- ---- the twin of a row in the part q of its residence set

module _ {b offs starts keys : List ℕ} (ready : Ready b offs starts keys) {p s q : ℕ} (asked : TwinAsked b p s q) {o : ℕ} (at : o ≡ get_or offs (get_or starts p 0 + s) 0) where
  abbrev here : Stands b p s o
  here = stands ready p s o asked.there at

  pub other_part : q < length (set_in b)
  other_part = other_lt ready here q asked.other

  pub remote_asked : RemoteThere b o p q
  remote_asked =
      let mask : (row_at (set_in b) p s).mask ≡ (row_from b o).mask = ap (λ (r : Row). r.mask) here.row in
      let other = others_in (row_at (set_in b) p s).mask p q asked.other in
      record {
        room = subst (λ (m : ℕ). o + row_length_of m ≤ length b) mask here.room;
        own_lt = omega (arith, own_lt ready here, ready.index.few);
        other_lt = other.0;
        own_in = T_true (has (row_from b o).mask p) (subst (λ (m : ℕ). T (has m p)) mask (fits ready here).own);
        other_in = T_true (has (row_from b o).mask q) (subst (λ (m : ℕ). T (has m q)) mask other.1);
        differ = other.2;
      }

  pub rows_asked : (q + 1 < length starts) × (get_or starts q 0 ≤ get_or starts (q + 1) 0)
  rows_asked = (omega (arith, other_part, ready.index.few, ready.index.starts_room), omega (arith, ready.index.next q other_part))

  module _ {t : ℕ} (named : t ≡ remote_slot_of (row_from b o) p q) {rows : ℕ} (counted : rows ≡ get_or starts (q + 1) 0 - get_or starts q 0) where
    slot_named : t ≡ remote_slot_of (row_at (set_in b) p s) p q
    slot_named = named ∙ ap (λ (r : Row). remote_slot_of r p q) (sym here.row)

    rows_are : rows ≡ length (get_or (set_in b) q [])
    rows_are = counted ∙ part-rows ready.index q other_part

    pub twin_there : t < rows → t < length (get_or (set_in b) q [])
    twin_there h = omega (arith, rows_are)

    tests : twin_agrees (set_in b) p s q ≡ (ltb t (length (get_or (set_in b) q [])) && is_same_copy (set_in b) p s q t && eqb (remote_slot_of (row_at (set_in b) q t) q p) s)
    tests = twin-tests (set_in b) p s q t slot_named

    pub twin-far : rows ≤ t → false ≡ twin_agrees (set_in b) p s q
    twin-far h =
        sym (tests ∙ ap (λ (x : Bool). x && is_same_copy (set_in b) p s q t && eqb (remote_slot_of (row_at (set_in b) q t) q p) s) (le-ltb t (length (get_or (set_in b) q [])) (omega (arith, rows_are))))

    module _ (lt : t < rows) {copy : Bool} (is : copy ≡ is_same_copy (set_in b) p s q t) where
      near : twin_agrees (set_in b) p s q ≡ (copy && eqb (remote_slot_of (row_at (set_in b) q t) q p) s)
      near =
          tests
          ∙ ap₂ (λ (x y : Bool). x && y && eqb (remote_slot_of (row_at (set_in b) q t) q p) s) (lt-ltb t (length (get_or (set_in b) q [])) (twin_there lt)) (sym is)

      pub twin-differs : copy ≡ false → false ≡ twin_agrees (set_in b) p s q
      twin-differs e = sym (near ∙ ap (λ (x : Bool). x && eqb (remote_slot_of (row_at (set_in b) q t) q p) s) e)

      module _ (yes : copy ≡ true) {o' : ℕ} (at' : o' ≡ get_or offs (get_or starts q 0 + t) 0) where
        abbrev twin-here : Stands b q t o'
        twin-here = stands ready q t o' (twin_there lt) at'

        pub back-asked : RemoteThere b o' q p
        back-asked =
            let mask : (row_at (set_in b) q t).mask ≡ (row_from b o').mask = ap (λ (r : Row). r.mask) twin-here.row in
            let one : (row_at (set_in b) p s).mask ≡ (row_from b o').mask = copy_mask (set_in b) p s q t (true_T (is_same_copy (set_in b) p s q t) (sym is ∙ yes)) ∙ mask in
            record {
              room = subst (λ (m : ℕ). o' + row_length_of m ≤ length b) mask twin-here.room;
              own_lt = remote_asked.other_lt;
              other_lt = remote_asked.own_lt;
              own_in = T_true (has (row_from b o').mask q) (subst (λ (m : ℕ). T (has m q)) mask (fits ready twin-here).own);
              other_in = T_true (has (row_from b o').mask p) (subst (λ (m : ℕ). T (has m p)) one (fits ready here).own);
              differ = λ e. remote_asked.differ (sym e);
            }

        pub twin-back : {back : ℕ} → back ≡ remote_slot_of (row_from b o') q p → eqb back s ≡ twin_agrees (set_in b) p s q
        twin-back e =
            ap (λ (k : ℕ). eqb k s) (e ∙ ap (λ (r : Row). remote_slot_of r q p) (sym twin-here.row))
            ∙ sym (near ∙ ap (λ (x : Bool). x && eqb (remote_slot_of (row_at (set_in b) q t) q p) s) yes)

-- ---- all twins

module _ {b offs starts keys : List ℕ} (ready : Ready b offs starts keys) (p s : ℕ) (there : s < length (get_or (set_in b) p [])) {o : ℕ} (at : o ≡ get_or offs (get_or starts p 0 + s) 0) {mask : ℕ} (read : mask ≡ u64_at b (o + 8)) where
  mask_at : mask ≡ (row_at (set_in b) p s).mask
  mask_at = read ∙ sym (row_mask b o) ∙ sym (ap (λ (r : Row). r.mask) (stands ready p s o there at).row)

  pub own_asked : (p < 64) × (has mask p ≡ true)
  own_asked =
      let st = stands ready p s o there at in
      (omega (arith, own_lt ready st, ready.index.few), ap (λ (m : ℕ). has m p) mask_at ∙ T_true (has (row_at (set_in b) p s).mask p) (fits ready st).own)

  module _ (w : ℕ) (is : parts_in w ≡ others mask p) where
    walked : parts_in w ≡ others (row_at (set_in b) p s).mask p
    walked = is ∙ ap (λ (m : ℕ). others m p) mask_at

    pub twin_asked : (q : ℕ) → In q (parts_in w) → TwinAsked b p s q
    twin_asked q i = record { there = there; other = subst (λ (l : List ℕ). In q l) walked i }

    pub twins_judged : every (twin_agrees (set_in b) p s) (parts_in w) ≡ twins_agree (set_in b) p s
    unfolding twins_agree
    twins_judged = ap (every (twin_agrees (set_in b) p s)) walked
