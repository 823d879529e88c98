-- The rows of a sound set are those that its parts make.
-- Assumes nothing.
use Prim.Native.Nat.{ℕ, zero, suc, ◌+◌, ◌-◌, ◌*◌, ◌^◌, ◌<◌}
use native.Mathlib.Omega.{arith}
use mathlib.Core.Path.{◌≡◌, refl, sym, ap, ◌∙◌, subst}
use mathlib.Core.List.{List, [], ◌++◌, map}
use lib.ListN.{length, get_or, replicate}
use lib.Seq.{ext_get_or}
use lib.Dec.{T, eqb→eq}
use Rattle.laws.specs.Lists.{flat}
use Rattle.field.specs.Bytes.{words, bytes_of}
use Rattle.part_set.specs.Masks.{parts_in, others}
use Rattle.paper.specs.Image.{Row, Set, no_row, row_at}
use Rattle.paper.specs.Mesh.{Entity, name_of, name, slots_of, shape_of, ent_of, parts_of, holds, slot_in, owner_among}
use Rattle.paper.specs.Sound.{body_fitting, remote_slot_of, owned_well}
use Rattle.paper.specs.Placement.{residence_in, body_in, row_for, rows_for}
use Rattle.laws.proofs.Agree.{map_of_map, map_same, map_self}
use Rattle.laws.proofs.Members.{in_get_or}
use Rattle.demands.proofs.Entities.Names.{in_holds}
use Rattle.part_set.proofs.MaskBits.{mask_of_is}
use Rattle.laws.proofs.Places.{read_places}
use Rattle.part_set.proofs.MaskParts.{others-ascends}
use Rattle.paper.proofs.Remotes.{remotes-others}
use Rattle.demands.proofs.Rows.Bodies.{vertex_body, slots_body}
use Rattle.demands.proofs.Rows.Made.{rows-count, rows-part}
use Rattle.demands.proofs.Sound.Facts.{Sound}
use Rattle.demands.proofs.Sound.Rows.{ent, parts_at, parts_count, row-fields, row_wide, slot_is, twin, held-has, has_in, in_part_lem, row}
use Rattle.demands.proofs.Sound.ToFit.{row-slots, small_part}

module _ (S : Set) (f : Sound S) where
  -- the residence set is that of the parts which hold the entity
  pub mask_is : (p s : ℕ) → s < length (get_or S p []) → residence_in (parts_of S) (name (ent S p s)) ≡ (row S p s).mask
  unfolding residence_in
  mask_is p s h =
      let k = name (ent S p s) in
      let m = (row S p s).mask in
      mask_of_is (length (parts_of S)) m (λ q. holds (get_or (parts_of S) q []) k) (subst (λ (z : ℕ). m < 2 ^ z) (sym (parts_count S)) (row-fields S f.copied p s h).mask)
      (λ q. held-has S f.copied p s q h) (λ q t. in_holds (get_or (parts_of S) q []) (ent S p s) (has_in S f.copied p s q h t))

  -- the remote slots are the places of the entity in the other parts
  slots_are : (p s : ℕ) → s < length (get_or S p [])
      → map (λ q. slot_in (get_or (parts_of S) q []) (name (ent S p s))) (others (row S p s).mask p) ≡ (row S p s).slots
  unfolding remote_slot_of
  slots_are p s h =
      let r = row S p s in
      let k = name (ent S p s) in
      let os = others r.mask p in
      map_same (λ q. slot_in (get_or (parts_of S) q []) k) (λ q. remote_slot_of r p q) os
      (λ q i. let w = twin S f.copied p s q h i in
      ap (λ (e : Entity). slot_in (get_or (parts_of S) q []) (name e)) w.ent-same ∙ slot_is S f.copied q (remote_slot_of r p q) w.slot)
      ∙ read_places os r.slots (others-ascends r.mask p)
      ((row_wide S f.copied p s h).row.slots ∙ sym (remotes-others r.mask p (small_part S f.copied p (ent S p s) (in_part_lem S p s h)) (row-fields S f.copied p s h).own))

  -- the body is written from the shape
  body_is : (p s : ℕ) → s < length (get_or S p []) → (d : ℕ) → (row S p s).dim ≡ d
      → body_in (get_or (parts_of S) p []) d (shape_of (get_or S p []) d (row S p s).body) ≡ (row S p s).body
  unfolding body_in shape_of slots_of body_fitting
  body_is p s h zero e =
      let r = row S p s in
      let w = row_wide S f.copied p s h in
      vertex_body r.body w.body w.row.body
  body_is p s h (suc d) e =
      let rows = get_or S p [] in
      let r = get_or rows s no_row in
      let fs = words (suc (suc d)) r.body in
      let o = row-slots S f.copied p s d h e in
      let w = row_wide S f.copied p s h in
      let es = get_or (parts_of S) p [] in
      let num : ℕ → ℕ = λ t. (get_or rows t no_row).number in
      ap (λ (l : List (List ℕ)). flat l ++ replicate (24 - 4 * (d + 2)) 0)
      (map_of_map (λ k. bytes_of 4 (slot_in es (name_of d k))) num fs
      ∙ map_same (λ t. bytes_of 4 (slot_in es (name_of d (num t)))) (bytes_of 4) fs
      (λ t i. ap (bytes_of 4) (slot_of p t d (o.there t i).0 (o.there t i).1)))
      ∙ slots_body d r.body w.body w.row.body (omega (arith, e, (row-fields S f.copied p s h).dim))
      (subst (λ (k : ℕ). T (body_fitting k r.body)) e (row-fields S f.copied p s h).body)
    where
      slot_of : (p t d : ℕ) → t < length (get_or S p []) → (row S p t).dim ≡ d → slot_in (get_or (parts_of S) p []) (name_of d (row S p t).number) ≡ t
      slot_of p t d l e = unfold ent_of in ap (λ (z : ℕ). slot_in (get_or (parts_of S) p []) (name_of z (row S p t).number)) (sym e) ∙ slot_is S f.copied p t l

  owner_is : (p s : ℕ) → s < length (get_or S p []) → owner_among (parts_of S) (parts_in (row S p s).mask) ≡ (row S p s).owner
  unfolding owned_well row_at
  owner_is p s h = let r = row S p s in sym (eqb→eq r.owner (owner_among (parts_of S) (parts_in r.mask)) (f.owner p s h))

  row_is : (p s : ℕ) → s < length (get_or S p []) → row_for (parts_of S) p (ent S p s) ≡ row S p s
  unfolding row_for ent_of
  row_is p s h = λ i.
      record {
        number = (row S p s).number;
        dim = (row S p s).dim;
        owner = (ap (λ (m : ℕ). owner_among (parts_of S) (parts_in m)) (mask_is p s h) ∙ owner_is p s h) i;
        kind = (row S p s).kind;
        pad = sym (row-fields S f.copied p s h).pad i;
        mask = mask_is p s h i;
        value = (row S p s).value;
        body = body_is p s h (row S p s).dim refl i;
        slots = (ap (λ (m : ℕ). map (λ q. slot_in (get_or (parts_of S) q []) (name (ent S p s))) (others m p)) (mask_is p s h) ∙ slots_are p s h) i;
      }

  part_is : (p : ℕ) → get_or S p [] ≡ get_or (rows_for (parts_of S)) p []
  part_is p =
      let rows = get_or S p [] in
      let same : get_or (rows_for (parts_of S)) p [] ≡ map (λ r. row_for (parts_of S) p (ent_of rows r)) rows =
      rows-part (parts_of S) p ∙ ap (map (row_for (parts_of S) p)) (parts_at S p) ∙ map_of_map (row_for (parts_of S) p) (ent_of rows) rows in
      sym (same ∙ map_self (λ r. row_for (parts_of S) p (ent_of rows r)) rows
      (λ r i. let w = in_get_or rows r no_row i in ap (λ (x : Row). row_for (parts_of S) p (ent_of rows x)) w.2 ∙ row_is p w.0 w.1 ∙ sym w.2))

  pub sound_canon : S ≡ rows_for (parts_of S)
  sound_canon = ext_get_or [] S (rows_for (parts_of S)) (sym (rows-count (parts_of S) ∙ parts_count S)) (λ p h. part_is p)
