-- The source row of an entity, its lowest row in the image: its fields are those of the entity, and the slots of its body name the entities of its
-- boundary. Assumes nothing.
use Prim.Native.Nat.{ℕ, zero, suc, ◌+◌, ◌*◌, ◌≤◌, ◌<◌}
use native.Mathlib.Omega.{arith}
use mathlib.Core.Path.{◌≡◌, sym, ap, ◌∙◌, subst}
use mathlib.Core.List.{List, [], map}
use lib.ListN.{length, get_or, take, drop}
use lib.Seq.{ext_get_or}
use lib.Dec.{T}
use Rattle.laws.specs.Lists.{In, flat}
use Rattle.laws.proofs.Members.{get_or_in, in_map}
use Rattle.laws.proofs.Agree.{map_of_map, map_same}
use Rattle.field.specs.Bytes.{u8_at, u32_at, u64_at, words, bytes_of}
use Rattle.field.proofs.Reading.{length-words, u32_drop}
use Rattle.part_set.specs.Masks.{has, lowest_of}
use Rattle.part_set.proofs.OnePart.{has_none}
use Rattle.paper.specs.Image.{Row, no_row, row_at}
use Rattle.paper.specs.Mesh.{Entity, name_of, no_ent, slots_of, shape_of, ent_of, slot_in}
use Rattle.index.specs.Index.{row_from, set_in, Indexed}
use Rattle.index.proofs.RowFields.{get_or_words, row_number, row_dim, row_kind, row_mask, row_value, row_body, row_word}
use Rattle.plan.specs.Plan.{mesh, LowestRow, Numbered}
use Rattle.demands.proofs.Rows.Bodies.{vertex_body}
use Rattle.demands.proofs.Sound.Facts.{Copied}
use Rattle.demands.proofs.Sound.Rows.{FieldsOk, row-fields, row_wide}
use Rattle.demands.proofs.Sound.Slots.{SlotsOk}
use Rattle.demands.proofs.Sound.ToFit.{row-slots}
use Rattle.rows.proofs.Laws.{part_there, row_there, offset_there}
use Rattle.writer.specs.Rows.{source_at, face_at, faces_at}

-- the words of a row's body are those that stand in the image
words_read : (b : List ℕ) (o k : ℕ) → k ≤ 6 → words k (drop (o + 24) b) ≡ words k (row_from b o).body
words_read b o k few =
    let n = length-words k (drop (o + 24) b) in
    ext_get_or 0 (words k (drop (o + 24) b)) (words k (row_from b o).body) (n ∙ sym (length-words k (row_from b o).body)) (λ i h.
    let h' : i < k = subst (λ (z : ℕ). i < z) n h in
    get_or_words k (drop (o + 24) b) i h' ∙ u32_drop b (o + 24) (4 * i) ∙ sym (row_word b o k i h' few))

module _ {b offs starts ord : List ℕ} {n : ℕ} (index : Indexed b offs starts n) (f : Copied (set_in b)) {i : ℕ} (L : LowestRow (set_in b) starts ord i) where
  -- its row, where it stands, and its entity
  abbrev source : Row
  source = row_at (set_in b) L.part L.slot

  abbrev entity : Entity
  entity = get_or (mesh b) i no_ent

  row_is : source ≡ row_from b (source_at offs ord i)
  row_is = index.row L.part L.slot L.there ∙ ap (λ (g : ℕ). row_from b (get_or offs g 0)) (sym L.is)

  -- ---- the tables that lead to it

  pub order_there : get_or ord i 0 < length offs
  order_there = omega (arith, L.is, row_there index L.part L.slot L.there, index.offs_room)

  pub source_there : source_at offs ord i + 48 ≤ length b
  source_there = subst (λ (g : ℕ). get_or offs g 0 + 48 ≤ length b) (sym L.is) (offset_there index L.part L.slot L.there)

  fields : FieldsOk (length (set_in b)) L.part source
  unfolding row_at
  fields = row-fields (set_in b) f L.part L.slot L.there

  mask_read : u64_at b (source_at offs ord i + 8) ≡ source.mask
  mask_read = sym (ap (λ (r : Row). r.mask) row_is ∙ row_mask b (source_at offs ord i))

  pub lowest_is : lowest_of (u64_at b (source_at offs ord i + 8)) ≡ L.part
  lowest_is = ap lowest_of mask_read ∙ L.low

  pub lowest_there : lowest_of (u64_at b (source_at offs ord i + 8)) < length starts
  lowest_there = omega (arith, lowest_is, part_there index L.part L.slot L.there, index.few, index.starts_room)

  pub mask_some : 0 < u64_at b (source_at offs ord i + 8)
  mask_some = go (u64_at b (source_at offs ord i + 8)) (subst (λ (m : ℕ). T (has m L.part)) (sym mask_read) fields.own)
    where
      go : (m : ℕ) → T (has m L.part) → 0 < m
      go zero t = absurd (subst T (has_none L.part) t)
      go (suc m) t = omega arith

  -- ---- its fields

  pub number_is : u32_at b (source_at offs ord i) ≡ entity.number
  unfolding ent_of
  number_is = sym (ap (λ (r : Row). r.number) row_is ∙ row_number b (source_at offs ord i)) ∙ ap (λ (e : Entity). e.number) L.entity

  pub dim_is : u8_at b (source_at offs ord i + 4) ≡ entity.dim
  unfolding ent_of
  dim_is = sym (ap (λ (r : Row). r.dim) row_is ∙ row_dim b (source_at offs ord i)) ∙ ap (λ (e : Entity). e.dim) L.entity

  pub kind_is : u8_at b (source_at offs ord i + 6) ≡ entity.kind
  unfolding ent_of
  kind_is = sym (ap (λ (r : Row). r.kind) row_is ∙ row_kind b (source_at offs ord i)) ∙ ap (λ (e : Entity). e.kind) L.entity

  pub value_is : u64_at b (source_at offs ord i + 16) ≡ entity.value
  unfolding ent_of
  value_is = sym (ap (λ (r : Row). r.value) row_is ∙ row_value b (source_at offs ord i)) ∙ ap (λ (e : Entity). e.value) L.entity

  source_dim : source.dim ≡ entity.dim
  unfolding ent_of
  source_dim = ap (λ (e : Entity). e.dim) L.entity

  pub low_dim : u8_at b (source_at offs ord i + 4) ≤ 3
  low_dim = omega (arith, dim_is, source_dim, fields.dim)

  shape_is : (d : ℕ) → entity.dim ≡ d → shape_of (get_or (set_in b) L.part []) d source.body ≡ entity.shape
  unfolding ent_of
  shape_is d e = ap (λ (z : ℕ). shape_of (get_or (set_in b) L.part []) z source.body) (sym (source_dim ∙ e)) ∙ ap (λ (e : Entity). e.shape) L.entity

  body_read : take 24 (drop (source_at offs ord i + 24) b) ≡ source.body
  body_read = sym (ap (λ (r : Row). r.body) row_is ∙ row_body b (source_at offs ord i))

  -- a vertex's coordinates
  pub coords_are : entity.dim ≡ 0 → take 24 (drop (source_at offs ord i + 24) b) ≡ flat (map (bytes_of 8) entity.shape)
  unfolding shape_of row_at
  coords_are e =
      let w = row_wide (set_in b) f L.part L.slot L.there in
      body_read ∙ sym (vertex_body source.body w.body w.row.body) ∙ ap (λ (xs : List ℕ). flat (map (bytes_of 8) xs)) (shape_is 0 e)

  -- ---- its boundary

  module _ {ent : List ℕ} (N : Numbered b starts ent) (d : ℕ) (e : entity.dim ≡ suc d) where
    -- the slots that its body has, and the number of the row in a slot
    abbrev slots : List ℕ
    slots = words (suc (suc d)) source.body

    abbrev number_at : ℕ → ℕ
    number_at t = (get_or (get_or (set_in b) L.part []) t no_row).number

    slots_stand_lem : SlotsOk (get_or (set_in b) L.part []) d slots
    unfolding row_at
    slots_stand_lem = row-slots (set_in b) f L.part L.slot d L.there (source_dim ∙ e)

    few_slots : suc (suc d) ≤ 6
    few_slots = omega (arith, source_dim, e, fields.dim)

    slots_read : words (suc d + 1) (drop (source_at offs ord i + 24) b) ≡ slots
    slots_read =
        let k : suc d + 1 ≡ suc (suc d) = omega arith in
        ap (λ (z : ℕ). words z (drop (source_at offs ord i + 24) b)) k ∙ words_read b (source_at offs ord i) (suc (suc d)) few_slots
        ∙ ap (λ (r : Row). words (suc (suc d)) r.body) (sym row_is)

    shape_named : map number_at slots ≡ entity.shape
    unfolding shape_of slots_of
    shape_named = shape_is (suc d) e

    face_is : (t : ℕ) → In t slots → face_at b starts ent (source_at offs ord i) t ≡ slot_in (mesh b) (name_of d (number_at t))
    unfolding row_at
    face_is t j =
        let w = slots_stand_lem.there t j in
        ap (λ (p : ℕ). get_or ent (get_or starts p 0 + t) 0) lowest_is ∙ N.entry L.part t w.0
        ∙ ap (λ (z : ℕ). slot_in (mesh b) (name_of z (number_at t))) w.1

    -- the entities of its boundary
    pub faces_are : faces_at b starts ent (source_at offs ord i) (suc d) ≡ map (λ k. slot_in (mesh b) (name_of d k)) entity.shape
    unfolding faces_at
    faces_are =
        let face : ℕ → ℕ = face_at b starts ent (source_at offs ord i) in
        let at : ℕ → ℕ = λ k. slot_in (mesh b) (name_of d k) in
        ap (map face) slots_read ∙ map_same face (λ t. at (number_at t)) slots face_is ∙ sym (map_of_map at number_at slots) ∙ ap (map at) shape_named

    -- each of them: its row is there, and it is a face of the entity
    module _ (k : ℕ) (h : k < u8_at b (source_at offs ord i + 4) + 1) where
      slot_in_lem : In (u32_at b (source_at offs ord i + 24 + 4 * k)) slots
      slot_in_lem =
          let h' : k < suc (suc d) = omega (arith, dim_is, e) in
          subst (λ (t : ℕ). In t slots) (ap (λ (r : Row). get_or (words (suc (suc d)) r.body) k 0) row_is ∙ row_word b (source_at offs ord i) (suc (suc d)) k h' few_slots)
          (get_or_in slots k 0 (omega (arith, length-words (suc (suc d)) source.body)))

      pub face-named : get_or starts (lowest_of (u64_at b (source_at offs ord i + 8))) 0 + u32_at b (source_at offs ord i + 24 + 4 * k) < length ent
      face-named =
          let t = u32_at b (source_at offs ord i + 24 + 4 * k) in
          subst (λ (p : ℕ). get_or starts p 0 + t < length ent) (sym lowest_is)
          (omega (arith, row_there index L.part t (slots_stand_lem.there t slot_in_lem).0, N.room))

      pub face_at_lem : (j : ℕ) × In j entity.shape × (face_at b starts ent (source_at offs ord i) (u32_at b (source_at offs ord i + 24 + 4 * k)) ≡ slot_in (mesh b) (name_of d j))
      face_at_lem =
          let t = u32_at b (source_at offs ord i + 24 + 4 * k) in
          (number_at t, subst (λ (xs : List ℕ). In (number_at t) xs) shape_named (in_map number_at slots t slot_in_lem), face_is t slot_in_lem)
