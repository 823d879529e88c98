-- With all tables filled, what the writer wants of an entity in a part is there, and what the tables say of it is right. Assumes nothing.
use Prim.Native.Nat.{ℕ, zero, suc, ◌+◌, ◌*◌, ◌<◌}
use native.Mathlib.Omega.{arith}
use mathlib.Core.Path.{◌≡◌, refl, sym, ap, ◌∙◌, subst}
use mathlib.Core.List.{List}
use lib.ListN.{length, get_or}
use lib.Dec.{T}
use lib.Pow.{are_bytes}
use Rattle.laws.specs.Lists.{In}
use Rattle.laws.proofs.Tests.{T_true}
use Rattle.field.specs.Bytes.{u8_at, u32_at}
use Rattle.part_set.specs.Masks.{has}
use Rattle.part_set.proofs.MaskParts.{others_in}
use Rattle.paper.specs.Mesh.{name_of, no_ent, slot_in}
use Rattle.index.specs.Index.{set_in}
use Rattle.plan.specs.Plan.{mesh, placing, made, LowestRow, Prepared}
use Rattle.demands.proofs.Sound.Facts.{Copied, sound_inv}
use Rattle.demands.proofs.ForCode.Spread.{mask_at, slot_by}
use Rattle.demands.proofs.ForCode.SpreadRows.{face_index}
use Rattle.writer.specs.Entries.{entry_from, entry_of, Entered}
use Rattle.writer.specs.Rows.{source_at, face_at, RowReady}
use Rattle.writer.proofs.Right.{Right}
use Rattle.output.proofs.TablesFilled.{TablesFilled, slots_there, entered, entry_is}
use Rattle.output.proofs.Masks.{well, mask_is, slot_is}
use Rattle.output.proofs.Source.{order_there, source_there, lowest_there, mask_some, number_is, dim_is, kind_is, value_is, low_dim, coords_are, faces_are, face-named, face_at_lem}

-- a number that is not 0
some_suc : (d : ℕ) → 0 < d → (c : ℕ) × (d ≡ suc c)
some_suc zero h = absurd (omega arith)
some_suc (suc c) h = (c, refl)

module _ {b l offs starts ord ent masks counts base slots members begins : List ℕ} {n m : ℕ} (P : Prepared b l offs starts ord ent masks counts n m)
    (y : T (are_bytes b)) (F : TablesFilled masks base slots members begins n m) where
  sound : Copied (set_in b)
  sound = (sound_inv b (set_in b) y P.source.sound).0.copied

  -- the entry of an entity in a part of its set
  module _ (q i : ℕ) (h : i < m) (k : q < 64) (t : T (has (mask_at (made b l) (mesh b) i) q)) where
    own : T (has (get_or masks i 0) q)
    own = subst (λ (w : ℕ). T (has w q)) (sym (mask_is P i h)) t

    entered_at : Entered masks base slots q i
    entered_at = entered F i q h k own

    entry_at : entry_of masks base slots q i ≡ slot_by (made b l) (mesh b) q i
    entry_at = entry_is F i q h k own ∙ slot_is P q i (omega arith)

  module _ (q i : ℕ) (g : q < n) (h : i < m) (t : T (has (mask_at (made b l) (mesh b) i) q)) where
    low : q < 64
    low = omega (arith, F.few_parts)

    row : LowestRow (set_in b) starts ord i
    row = P.source.ordered.row i h

    -- a face is in each part of its entity
    face_there : (d k : ℕ) → (get_or (mesh b) i no_ent).dim ≡ suc d → In k (get_or (mesh b) i no_ent).shape
        → let j = slot_in (mesh b) (name_of d k) in (j < m) × T (has (mask_at (made b l) (mesh b) j) q)
    face_there d k e j =
        let c = P.source.ordered.count in
        let w = face_index (length (set_in b)) (mesh b) (placing b l) (well P) q i d k (omega (arith, P.source.indexed.count)) (omega arith) t e j in
        (omega (arith, w.0, c), w.2)

    face_entered : (k : ℕ) → 0 < u8_at b (source_at offs ord i + 4) → k < u8_at b (source_at offs ord i + 4) + 1
        → Entered masks base slots q (face_at b starts ent (source_at offs ord i) (u32_at b (source_at offs ord i + 24 + 4 * k)))
    face_entered k z a =
        let d = some_suc (u8_at b (source_at offs ord i + 4)) z in
        let e = sym (dim_is P.source.indexed sound row) ∙ d.1 in
        let f = face_at_lem P.source.indexed sound row P.numbered d.0 e k a in
        let w = face_there d.0 f.0 e f.1 in
        subst (Entered masks base slots q) (sym f.2) (entered_at q (slot_in (mesh b) (name_of d.0 f.0)) w.0 low w.1)

    pub row_ready : RowReady b offs starts ord ent counts masks base slots q i
    row_ready = record {
      part = low;
      ordered = omega (arith, P.source.ordered.room, P.source.ordered.few);
      offset = order_there P.source.indexed sound row;
      masked = omega (arith, F.masks_room);
      based = omega (arith, F.base_room);
      counted = P.tallied.room;
      there = slots_there F i h;
      own = T_true (has (get_or masks i 0) q) (own q i h low t);
      source = source_there P.source.indexed sound row;
      low = low_dim P.source.indexed sound row;
      old = mask_some P.source.indexed sound row;
      begun = lowest_there P.source.indexed sound row;
      named = λ z k a.
          let d = some_suc (u8_at b (source_at offs ord i + 4)) z in
          face-named P.source.indexed sound row P.numbered d.0 (sym (dim_is P.source.indexed sound row) ∙ d.1) k a;
      entered = λ z k a. face_entered k z a;
    }

    pub row_right : Right (made b l) (mesh b) b offs starts ord ent masks base slots q i
    row_right = record {
      number = number_is P.source.indexed sound row;
      dim = dim_is P.source.indexed sound row;
      kind = kind_is P.source.indexed sound row;
      mask = mask_is P i h;
      value = value_is P.source.indexed sound row;
      coords = coords_are P.source.indexed sound row;
      places = faces_are P.source.indexed sound row P.numbered;
      entries = λ d e k j.
          let w = face_there d k e j in
          entry_at q (slot_in (mesh b) (name_of d k)) w.0 low w.1;
      remotes = λ p j.
          let o = others_in (mask_at (made b l) (mesh b) i) q p j in
          ap (λ (w : ℕ). entry_from slots (get_or base i 0) w p) (sym (mask_is P i h)) ∙ entry_at p i h o.0 o.1;
    }
