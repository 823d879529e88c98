-- The loop over the entities, on plain values: the entities so far have their sets, and the rows of these have their numbers. Assumes nothing.
use Prim.Native.Nat.{ℕ, ◌+◌, ◌^◌, ◌≤◌, ◌<◌}
use native.Mathlib.Decide.{dec_le}
use native.Mathlib.Nat.{lt_of_not-le}
use native.Mathlib.Omega.{arith}
use mathlib.Core.Path.{◌≡◌, sym, ap, ap₂, ◌∙◌, subst}
use mathlib.Core.Bool.{Bool}
use mathlib.Core.List.{List, [], ◌∷◌, map}
use lib.ListN.{length, get_or, set, length-set}
use lib.Seq.{get_or-set_same, get_or-set_other}
use lib.Dec.{T}
use lib.Pow.{pow_mono}
use Rattle.laws.specs.Lists.{In, some?}
use Rattle.laws.proofs.Tests.{iff_eq}
use Rattle.laws.proofs.Members.{some_in, map_in, in_map}
use Rattle.laws.proofs.Agree.{some_same, some_of_map}
use Rattle.field.proofs.Reading.{bytes_all}
use Rattle.part_set.specs.Masks.{has, parts_in}
use Rattle.part_set.proofs.MaskBits.{mask_ext}
use Rattle.part_set.proofs.MaskParts.{has_lt, parts_in_in, in_parts_in}
use Rattle.paper.specs.Image.{row_at}
use Rattle.paper.specs.Mesh.{Entity, no_ent, name, ent_of, slot_in}
use Rattle.paper.specs.Sound.{name_of_row}
use Rattle.demands.proofs.Sound.Facts.{Sound, sound_inv}
use Rattle.demands.proofs.Sound.Rows.{row, ent}
use Rattle.demands.proofs.ForCode.Spread.{mask_lt}
use Rattle.demands.proofs.ForCode.Marks.{marked, copy_slot, mask_by_copies, row_index}
use Rattle.index.specs.Index.{set_in, max_rows}
use Rattle.rows.proofs.Laws.{part_there, row_there}
use Rattle.entities.proofs.Distinct.{one-part}
use Rattle.plan.specs.Plan.{mesh, placing, new_set, LowestRow, Sourced, Masked, Numbered}
use Rattle.homes.specs.Joining.{Joinable}
use Rattle.homes.specs.CopyRows.{other_rows, joined, numbered, EntityThere}
use Rattle.homes.proofs.Unions.{has-joined, length-one, numbered_in, numbered_out}
use Rattle.homes.proofs.Marking.{part-marks, marked_lt}
use Rattle.homes.proofs.Copies.{copy_there, is_copy, entity_index, all_rows, entity_there}

-- the place in the mesh of the entity of row s of part p
abbrev index_at : List ℕ → ℕ → ℕ → ℕ
index_at b p s = slot_in (mesh b) (name_of_row (row (set_in b) p s))

-- the first i entities have their sets, and the rows of these their numbers
pub record Homed (b l starts masks₀ ent₀ masks ent : List ℕ) (i : ℕ) : Type 0 where
  pub masked : (j : ℕ) → j < i → get_or masks j 0 ≡ new_set b l j
  pub entered : (p s : ℕ) → s < length (get_or (set_in b) p []) → index_at b p s < i
      → get_or ent (get_or starts p 0 + s) 0 ≡ index_at b p s
  pub same_masks : length masks ≡ length masks₀
  pub same-ent : length ent ≡ length ent₀

module _ {b l offs starts covered ord dest work masks₀ ent₀ : List ℕ} {n m : ℕ} (source : Sourced b offs starts ord n m)
    (ready : Joinable b l starts covered dest work masks₀ ent₀ n) (bytes : (i : ℕ) → get_or b i 0 < 256) where
  sound : Sound (set_in b)
  sound = (sound_inv b (set_in b) (bytes_all b bytes) source.sound).0

  -- the tables end with the rows of all entities done
  pub homed_done : (masks ent : List ℕ) (i : ℕ) → Homed b l starts masks₀ ent₀ masks ent i → m ≤ i → Masked b l masks × Numbered b starts ent
  unfolding row_at
  homed_done masks ent i now h =
      let all : m ≡ length (mesh b) = source.ordered.count in (
        record { room = omega (arith, now.same_masks, ready.masks_room); entry = λ j k. now.masked j (omega arith) },
        record { room = omega (arith, now.same-ent, ready.ent_room); entry = λ p s k. now.entered p s k (omega (arith, (row_index (set_in b) sound p s k).0)) },
      )

  -- ---- entity i: its lowest row is row g of the image, which stands at o

  module _ (i : ℕ) (hi : i < m) where
    low-row : LowestRow (set_in b) starts ord i
    low-row = source.ordered.row i hi

    pub lowest_listed : get_or ord i 0 < max_rows
    lowest_listed = omega (arith, low-row.is, row_there source.indexed low-row.part low-row.slot low-row.there)

    module _ (g o : ℕ) (at-ord : g ≡ get_or ord i 0) (at-offs : o ≡ get_or offs g 0) where
      pub one-there : (ent : List ℕ) → length ent ≡ length ent₀ → EntityThere b starts o g work ent
      one-there ent same =
          let w = low-row in
          entity_there source.indexed sound w.part w.slot w.there w.low g o (at-ord ∙ w.is) at-offs work ent ready.words (omega (arith, same, ready.ent_room))

      abbrev p : ℕ
      p = low-row.part

      abbrev s : ℕ
      s = low-row.slot

      abbrev here : s < length (get_or (set_in b) p [])
      here = low-row.there

      in_mesh : i < length (mesh b)
      in_mesh = omega (arith, source.ordered.count)

      entity : ent (set_in b) p s ≡ get_or (mesh b) i no_ent
      unfolding row_at
      entity = low-row.entity

      -- the row of its copy in part r
      abbrev copy_row : ℕ → ℕ
      copy_row r = get_or starts r 0 + copy_slot (set_in b) p s r

      rows : g ∷ other_rows b starts o ≡ map copy_row (parts_in (row (set_in b) p s).mask)
      rows = all_rows source.indexed sound p s here low-row.low g o (at-ord ∙ low-row.is) at-offs

      -- ---- its set

      -- the bits of the union are the marks of the copies
      union-bits : (q : ℕ) → has (joined work (get_or work g 0) (other_rows b starts o)) q
          ≡ some? (λ r. marked (set_in b) (placing b l) r q (copy_slot (set_in b) p s r)) (parts_in (row (set_in b) p s).mask)
      unfolding some?
      union-bits q =
          let word : ℕ → Bool = λ x. has (get_or work x 0) q in
          let parts = parts_in (row (set_in b) p s).mask in
          has-joined work (get_or work g 0) q (other_rows b starts o) ∙ ap (some? word) rows ∙ some_of_map word copy_row parts
          ∙ some_same (λ r. word (copy_row r)) (λ r. marked (set_in b) (placing b l) r q (copy_slot (set_in b) p s r)) parts
          (λ r k. let t = (copy_there (set_in b) sound p s here r (parts_in_in (row (set_in b) p s).mask r k).1).0 in
          ready.marked r (copy_slot (set_in b) p s r) q t ∙ part-marks sound ready.covers ready.destined r (copy_slot (set_in b) p s r) q)

      -- which are those of the new set: no copy is marked with what is no part
      same_bits : (q : ℕ) → has (joined work (get_or work g 0) (other_rows b starts o)) q ≡ has (new_set b l i) q
      same_bits q = elim (dec_le (length (set_in b)) q) [ yes far ↦ outside far | no near ↦ inside (lt_of_not-le near) ]
        where
          on : ℕ → Bool
          on r = marked (set_in b) (placing b l) r q (copy_slot (set_in b) p s r)

          inside : q < length (set_in b) → has (joined work (get_or work g 0) (other_rows b starts o)) q ≡ has (new_set b l i) q
          inside near = union-bits q ∙ sym (mask_by_copies (set_in b) sound (placing b l) (length (set_in b)) q i near in_mesh p s here (sym entity))

          outside : length (set_in b) ≤ q → has (joined work (get_or work g 0) (other_rows b starts o)) q ≡ has (new_set b l i) q
          outside far =
              iff_eq (has (joined work (get_or work g 0) (other_rows b starts o)) q) (has (new_set b l i) q)
              (λ t. let w = some_in on (parts_in (row (set_in b) p s).mask) (subst T (union-bits q) t) in
              absurd (omega (arith, marked_lt b l sound ready.well w.0 q (copy_slot (set_in b) p s w.0) w.2, source.indexed.count)))
              (λ t. absurd (omega (arith, has_lt (length (set_in b)) (new_set b l i) q (mask_lt (length (set_in b)) (mesh b) (placing b l) i) t)))

      new-set : (v : ℕ) → v < 2 ^ 64 → v ≡ joined work (get_or work g 0) (other_rows b starts o) → v ≡ new_set b l i
      new-set v fits e =
          let small = mask_lt (length (set_in b)) (mesh b) (placing b l) i in
          let few = pow_mono {i = length (set_in b)} {j = 64} sound.copied.few_parts in
          mask_ext 64 v (new_set b l i) fits (omega (arith, small, few)) (λ q h. ap (λ (x : ℕ). has x q) e ∙ same_bits q)

      -- ---- its rows

      -- each row of entity i is among them
      row_in : (q t : ℕ) → t < length (get_or (set_in b) q []) → index_at b q t ≡ i → In (get_or starts q 0 + t) (g ∷ other_rows b starts o)
      row_in q t k e =
          let is : ent (set_in b) q t ≡ ent (set_in b) p s = sym (row_index (set_in b) sound q t k).1 ∙ ap (λ (x : ℕ). get_or (mesh b) x no_ent) e ∙ sym entity in
          let w = is_copy (set_in b) sound p s here q t k is in
          let mask = (row (set_in b) p s).mask in
          let q-lt : q < 64 = omega (arith, part_there source.indexed q t k, source.indexed.few) in
          subst (λ (xs : List ℕ). In (get_or starts q 0 + t) xs) (sym rows)
          (subst (λ (x : ℕ). In (get_or starts q 0 + x) (map copy_row (parts_in mask))) (sym w.1) (in_map copy_row (parts_in mask) q (in_parts_in mask q q-lt w.0)))

      -- and they are all of entity i
      in_row : (q t : ℕ) → t < length (get_or (set_in b) q []) → In (get_or starts q 0 + t) (g ∷ other_rows b starts o) → index_at b q t ≡ i
      unfolding ent_of
      in_row q t k x =
          let mask = (row (set_in b) p s).mask in
          let w = map_in copy_row (parts_in mask) (get_or starts q 0 + t) (subst (λ (xs : List ℕ). In (get_or starts q 0 + t) xs) rows x) in
          let r = w.0 in
          let c = copy_there (set_in b) sound p s here r (parts_in_in mask r w.1).1 in
          let part : q ≡ r = one-part source.indexed q t r (copy_slot (set_in b) p s r) k c.0 w.2 in
          let slot : t ≡ copy_slot (set_in b) p s r = omega (arith, w.2, ap (λ (x : ℕ). get_or starts x 0) part) in
          let is : ent (set_in b) q t ≡ ent (set_in b) p s = ap₂ (ent (set_in b)) part slot ∙ sym c.1 in
          ap (λ (x : Entity). slot_in (mesh b) (name x)) is ∙ entity_index (set_in b) sound p s here i in_mesh entity

      module _ {masks ent : List ℕ} (now : Homed b l starts masks₀ ent₀ masks ent i) (ent' : List ℕ) (v : ℕ) (fits : v < 2 ^ 64)
          (done : (v ≡ joined work (get_or work g 0) (other_rows b starts o)) × (ent' ≡ numbered i (set ent g i) (other_rows b starts o))) where
        masked-more : (j : ℕ) → j < i + 1 → get_or (set masks i v) j 0 ≡ new_set b l j
        masked-more j k = elim (dec_le i j) [ yes up ↦ new (omega arith) | no down ↦ old (lt_of_not-le down) ]
          where
            new : j ≡ i → get_or (set masks i v) j 0 ≡ new_set b l j
            new e =
                let room : i < length masks = omega (arith, now.same_masks, ready.masks_room, source.ordered.few) in
                ap (λ (x : ℕ). get_or (set masks i v) x 0) e ∙ get_or-set_same masks i v 0 room ∙ new-set v fits done.0 ∙ ap (λ (x : ℕ). new_set b l x) (sym e)

            old : j < i → get_or (set masks i v) j 0 ≡ new_set b l j
            old k = get_or-set_other masks i j v 0 (λ e. omega (arith, e)) ∙ now.masked j k

        entered-more : (q t : ℕ) → t < length (get_or (set_in b) q []) → index_at b q t < i + 1
            → get_or ent' (get_or starts q 0 + t) 0 ≡ index_at b q t
        unfolding numbered
        entered-more q t l' k = elim (dec_le i (index_at b q t)) [ yes up ↦ new (omega arith) | no down ↦ old (lt_of_not-le down) ]
          where
            new : index_at b q t ≡ i → get_or ent' (get_or starts q 0 + t) 0 ≡ index_at b q t
            new e =
                let room : get_or starts q 0 + t < length ent = omega (arith, row_there source.indexed q t l', now.same-ent, ready.ent_room) in
                ap (λ (xs : List ℕ). get_or xs (get_or starts q 0 + t) 0) done.1
                ∙ numbered_in i ent (g ∷ other_rows b starts o) (get_or starts q 0 + t) room (row_in q t l' e) ∙ sym e

            old : index_at b q t < i → get_or ent' (get_or starts q 0 + t) 0 ≡ index_at b q t
            old k =
                ap (λ (xs : List ℕ). get_or xs (get_or starts q 0 + t) 0) done.1
                ∙ numbered_out i ent (g ∷ other_rows b starts o) (get_or starts q 0 + t) (λ x. omega (arith, in_row q t l' x)) ∙ now.entered q t l' k

        pub homed_more : Homed b l starts masks₀ ent₀ (set masks i v) ent' (i + 1)
        homed_more = record {
          masked = masked-more;
          entered = entered-more;
          same_masks = length-set masks i v ∙ now.same_masks;
          same-ent = length-one i g ent (other_rows b starts o) ent' done.1 ∙ now.same-ent;
        }
