-- The rows of an entity: the lowest of them names all others. Assumes nothing.
use Prim.Native.Nat.{ℕ, suc, ◌+◌, ◌*◌, ◌≤◌, ◌<◌}
use native.Mathlib.Omega.{arith}
use mathlib.Core.Path.{◌≡◌, refl, sym, ap, ap₂, ◌∙◌, subst}
use mathlib.Core.Bool.{Bool, cond}
use mathlib.Core.List.{List, [], ◌∷◌, map}
use lib.ListN.{length, get_or, drop, length-map}
use lib.Dec.{T, eqb}
use Rattle.laws.specs.Lists.{In, index_of}
use Rattle.laws.proofs.Tests.{T_true, eq-eqb, ne_eqb}
use Rattle.laws.proofs.Members.{get_or_in, map_in}
use Rattle.laws.proofs.Agree.{get_or_map}
use Rattle.laws.proofs.Places.{index_get_or}
use Rattle.field.specs.Bytes.{u32_at, u64_at}
use Rattle.part_set.specs.Masks.{has, parts_in, others, lowest_of}
use Rattle.part_set.proofs.MaskParts.{others_in, others-ascends, others-count}
use Rattle.part_set.proofs.OnePart.{parts_without}
use Rattle.part_set.proofs.Walk.{lowest_has, rest_is}
use Rattle.paper.specs.Image.{Row, Set, remotes, row_length_of, row_at}
use Rattle.paper.specs.Mesh.{Entity, name, no_ent, ent_of, parts_of, mesh_of, holds, slot_in}
use Rattle.paper.specs.Sound.{name_of_row, remote_slot_of}
use Rattle.demands.proofs.Entities.Names.{in_holds}
use Rattle.demands.proofs.Entities.Sorted.{mesh-ascends}
use Rattle.demands.proofs.Sound.Facts.{Sound}
use Rattle.demands.proofs.Sound.Rows.{row, ent, part_in, in_part_lem, row-fields, row_wide, slot_is, held-has, has_in}
use Rattle.demands.proofs.ForCode.Marks.{copy_slot, copy_slot_lem}
use Rattle.index.specs.Index.{row_from, set_in, max_rows, Indexed}
use Rattle.index.proofs.RowFields.{row_mask, row_slot, row-length}
use Rattle.rows.proofs.Laws.{part_room, part_there, offset_there}
use Rattle.entities.proofs.Own.{has_some}
use Rattle.homes.specs.CopyRows.{copy_rows, other_rows, CopiesThere, EntityThere}

-- ---- the copies of row s of part p

module _ (S : Set) (f : Sound S) (p s : ℕ) (h : s < length (get_or S p [])) where
  -- each part of its set has one, which is the same entity
  pub copy_there : (r : ℕ) → T (has (row S p s).mask r) → (copy_slot S p s r < length (get_or S r [])) × (ent S p s ≡ ent S r (copy_slot S p s r))
  unfolding ent_of
  copy_there r t =
      let w = part_in S r (ent S p s) (has_in S f.copied p s r h t) in
      let e : copy_slot S p s r ≡ w.0 =
      sym (copy_slot_lem S f p s r h t) ∙ ap (λ (x : Entity). slot_in (get_or (parts_of S) r []) (name x)) w.2 ∙ slot_is S f.copied r w.0 w.1 in
      (subst (λ (x : ℕ). x < length (get_or S r [])) (sym e) w.1, w.2 ∙ ap (ent S r) (sym e))

  -- and a row that is the same entity is one
  pub is_copy : (q t : ℕ) → t < length (get_or S q []) → ent S q t ≡ ent S p s → T (has (row S p s).mask q) × (t ≡ copy_slot S p s q)
  unfolding ent_of
  is_copy q t l e =
      let part = get_or (parts_of S) q [] in
      let held : T (holds part (name (ent S p s))) = in_holds part (ent S p s) (subst (λ (x : Entity). In x part) e (in_part_lem S q t l)) in
      let b = held-has S f.copied p s q h held in
      (b, sym (slot_is S f.copied q t l) ∙ ap (λ (x : Entity). slot_in part (name x)) e ∙ copy_slot_lem S f p s q h b)

  -- the place of its entity in the mesh
  pub entity_index : (i : ℕ) → i < length (mesh_of (parts_of S)) → ent S p s ≡ get_or (mesh_of (parts_of S)) i no_ent → slot_in (mesh_of (parts_of S)) (name_of_row (row S p s)) ≡ i
  unfolding slot_in ent_of
  entity_index i l e =
      let es = mesh_of (parts_of S) in
      ap (λ (k : ℕ). index_of k (map name es)) (ap name e ∙ sym (get_or_map name es i no_ent 0 l))
      ∙ index_get_or (map name es) (mesh-ascends (parts_of S)) i (omega (arith, length-map es name))

-- ---- the slots that a row names

copy_rows_lem : (b starts : List ℕ) (slot : ℕ → ℕ) (at : ℕ) (rs : List ℕ) → ((k : ℕ) → k < length rs → u32_at b (at + 4 * k) ≡ slot (get_or rs k 0))
    → copy_rows b starts at rs ≡ map (λ r. get_or starts r 0 + slot r) rs
unfolding copy_rows
copy_rows_lem b starts slot at [] ok = refl
copy_rows_lem b starts slot at (r ∷ rs) ok =
    let e : at + 4 * 0 ≡ at = omega arith in
    ap₂ (λ (x : ℕ) (xs : List ℕ). (get_or starts r 0 + x) ∷ xs) (ap (u32_at b) (sym e) ∙ ok 0 (omega arith))
    (copy_rows_lem b starts slot (at + 4) rs (λ k l. let e : at + 4 + 4 * k ≡ at + 4 * suc k = omega arith in ap (u32_at b) e ∙ ok (suc k) (omega arith)))

-- ---- the lowest row of an entity, row g of an indexed image, which stands at o

module _ {b offs starts : List ℕ} {n : ℕ} (index : Indexed b offs starts n) (f : Sound (set_in b)) (p s : ℕ) (h : s < length (get_or (set_in b) p []))
    (low : lowest_of (row_at (set_in b) p s).mask ≡ p) (g o : ℕ) (is : g ≡ get_or starts p 0 + s) (at : o ≡ get_or offs g 0) where
  abbrev S : Set
  S = set_in b

  abbrev m : ℕ
  m = (row (set_in b) p s).mask

  -- the row of its copy in part r
  abbrev copy_row : ℕ → ℕ
  copy_row r = get_or starts r 0 + copy_slot (set_in b) p s r

  row_is : row (set_in b) p s ≡ row_from b o
  unfolding row_at
  row_is = index.row p s h ∙ ap (λ (x : ℕ). row_from b x) (sym (at ∙ ap (λ (x : ℕ). get_or offs x 0) is))

  mask_is : m ≡ u64_at b (o + 8)
  mask_is = ap (λ (r : Row). r.mask) row_is ∙ row_mask b o

  own : T (has m p)
  own = (row-fields S f.copied p s h).own

  part_lt : p < 64
  part_lt = omega (arith, part_there index p s h, index.few)

  some_part : 0 < m
  some_part = has_some m p own

  parts : parts_in m ≡ p ∷ others m p
  unfolding row_at
  parts =
      let wide = (row_wide S f.copied p s h).row.mask in
      (rest_is m some_part wide).parts ∙ ap (λ (l : List ℕ). lowest_of m ∷ l) (parts_without m (lowest_of m) (lowest_has m some_part wide))
      ∙ ap (λ (x : ℕ). x ∷ others m x) low

  named : drop 1 (parts_in (u64_at b (o + 8))) ≡ others m p
  named = ap (λ (x : ℕ). drop 1 (parts_in x)) (sym mask_is) ∙ ap (drop 1) parts

  few : length (others m p) ≡ remotes m
  unfolding remotes
  few = others-count m p part_lt own

  -- the k-th slot is that of the k-th other part
  slot_read : (k : ℕ) → k < length (others m p) → u32_at b (o + 48 + 4 * k) ≡ copy_slot (set_in b) p s (get_or (others m p) k 0)
  unfolding copy_slot remote_slot_of
  slot_read k l =
      let r = get_or (others m p) k 0 in
      let w = others_in m p r (get_or_in (others m p) k 0 l) in
      sym (row_slot b o k (subst (λ (x : Row). k < remotes x.mask) row_is (omega (arith, few))))
      ∙ ap (λ (x : Row). get_or x.slots k 0) (sym row_is)
      ∙ ap (λ (j : ℕ). get_or (row S p s).slots j 0) (sym (index_get_or (others m p) (others-ascends m p) k l))
      ∙ sym (ap (λ (x : Bool). cond x s (remote_slot_of (row S p s) p r)) (ne_eqb r p w.2))

  room_here : o + row_length_of m ≤ length b
  unfolding row_at
  room_here = subst (λ (x : ℕ). x + row_length_of m ≤ length b) (sym (at ∙ ap (λ (x : ℕ). get_or offs x 0) is)) (index.there p s h)

  other_rows_lem : other_rows b starts o ≡ map copy_row (others m p)
  other_rows_lem = ap (copy_rows b starts (o + 48)) named ∙ copy_rows_lem b starts (copy_slot (set_in b) p s) (o + 48) (others m p) slot_read

  own_row : g ≡ copy_row p
  unfolding copy_slot
  own_row = is ∙ ap (λ (x : Bool). get_or starts p 0 + cond x s (remote_slot_of (row S p s) p p)) (sym (T_true (eqb p p) (eq-eqb p p refl)))

  -- with its own, these are the rows of the copies in all parts of its set
  pub all_rows : g ∷ other_rows b starts o ≡ map (λ r. get_or starts r 0 + copy_slot (set_in b) p s r) (parts_in (row (set_in b) p s).mask)
  all_rows = ap₂ (λ (x : ℕ) (xs : List ℕ). x ∷ xs) own_row other_rows_lem ∙ ap (map copy_row) (sym parts)

  module _ (work ent : List ℕ) (words : get_or starts n 0 ≤ length work) (room : max_rows + 1 ≤ length ent) where
    row_within : (q t : ℕ) → t < length (get_or (set_in b) q []) → (get_or starts q 0 + t < length work) × (get_or starts q 0 + t < length ent)
    row_within q t l =
        let r = part_room index q (part_there index q t l) in
        (omega (arith, r), omega (arith, r, index.total_few))

    pub entity_there : EntityThere b starts o g work ent
    entity_there = record {
      room = omega (arith, offset_there index p s h, at ∙ ap (λ (x : ℕ). get_or offs x 0) is);
      some_part = subst (λ (x : ℕ). 0 < x) mask_is some_part;
      own = subst (λ (x : ℕ). (x < length work) × (x < length ent)) (sym is) (row_within p s h);
      others = subst (λ (rs : List ℕ). CopiesThere b starts (o + 48) rs work ent) (sym named) (record {
        room = omega (arith, room_here, row-length m, few);
        parts = λ r i. let w = others_in m p r i in omega (arith, w.0, index.starts_room);
        rows = λ x i.
            let w = map_in copy_row (others m p) x (subst (λ (xs : List ℕ). In x xs) (copy_rows_lem b starts (copy_slot (set_in b) p s) (o + 48) (others m p) slot_read) i) in
            let v = others_in m p w.0 w.1 in
            subst (λ (x : ℕ). (x < length work) × (x < length ent)) (sym w.2) (row_within w.0 (copy_slot (set_in b) p s w.0) (copy_there S f p s h w.0 v.1).0);
      });
    }
