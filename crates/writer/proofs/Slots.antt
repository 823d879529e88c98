-- The remote slots of a row, written part by part.
-- Assumes nothing.
use Prim.Native.Nat.{ℕ, ◌+◌, ◌*◌, ◌≤◌, ◌<◌}
use native.Mathlib.Omega.{arith}
use mathlib.Core.Path.{◌≡◌, refl, sym, ap, ◌∙◌, subst}
use mathlib.Core.Logic.{inl, inr}
use mathlib.Core.List.{List, [], ◌∷◌, ◌++◌, map}
use lib.ListN.{length, length-map}
use lib.Seq.{sets}
use lib.Dec.{T}
use Rattle.laws.specs.Lists.{In, flat}
use Rattle.field.specs.Bytes.{bytes_of}
use Rattle.field.proofs.Numbers.{length-bytes, length-written}
use Rattle.part_set.specs.Masks.{has, parts_in, others, rank_of, Turn}
use Rattle.part_set.proofs.MaskParts.{others_in, others-count}
use Rattle.part_set.proofs.Walk.{parts_none}
use Rattle.part_set.proofs.Rank.{rank_lt}
use Rattle.writer.specs.Entries.{entry_from, remote_slots, RemoteRoom}
use Rattle.writer.proofs.Writing.{Writing, write_none, write_more, write_done}

-- ---- the loop over the other parts

abbrev pub slot_bytes : List ℕ → ℕ → ℕ → List ℕ → List ℕ
slot_bytes slots base m ps = flat (map (bytes_of 4) (map (entry_from slots base m) ps))

pub slots_length : (slots : List ℕ) (base m : ℕ) (ps : List ℕ) → length (slot_bytes slots base m ps) ≡ 4 * length ps
slots_length slots base m ps = length-written (map (entry_from slots base m) ps) ∙ ap (λ (k : ℕ). 4 * k) (length-map ps (entry_from slots base m))

slots_cons : (slots : List ℕ) (base m p : ℕ) (ps : List ℕ) → slot_bytes slots base m (p ∷ ps) ≡ bytes_of 4 (entry_from slots base m p) ++ slot_bytes slots base m ps
unfolding flat
slots_cons slots base m p ps = refl

slots_nil : (slots : List ℕ) (base m : ℕ) → slot_bytes slots base m [] ≡ []
unfolding flat
slots_nil slots base m = refl

pub record SlotsLeft (slots : List ℕ) (base m q : ℕ) (start : List ℕ) (at : ℕ) (out : List ℕ) (w to : ℕ) : Type 0 where
  pub writing : Writing start at (flat (map (bytes_of 4) (remote_slots slots base m q))) out to (slot_bytes slots base m (parts_in w))
  pub among : (p : ℕ) → In p (parts_in w) → (p < 64) × T (has m p)

-- before the loop they are all other parts
pub slots_none : {slots : List ℕ} {base m q : ℕ} {start : List ℕ} {at w : ℕ} → RemoteRoom slots base m q start at → parts_in w ≡ others m q
    → SlotsLeft slots base m q start at start w at
unfolding remote_slots
slots_none {slots} {base} {m} {q} {start} {at} {w} k e =
    let n = slots_length slots base m (others m q) in
    let o = others-count m q k.part (subst T (sym k.own) tt) in
    record {
      writing = write_none start at (slot_bytes slots base m (others m q)) (slot_bytes slots base m (parts_in w)) (ap (slot_bytes slots base m) e) (omega (arith, n, o, k.room));
      among = λ p i. let v = others_in m q p (subst (λ (l : List ℕ). In p l) e i) in (v.0, v.1);
    }

module _ {slots : List ℕ} {base m q : ℕ} {start : List ℕ} {at : ℕ} {out : List ℕ} {w to : ℕ} (s : SlotsLeft slots base m q start at out w to) where
  -- the turn of part p
  module _ {p r : ℕ} (turn : Turn w p r) where
    pub slots_there : RemoteRoom slots base m q start at → base + rank_of m p < length slots
    slots_there k =
        let i = s.among p (subst (λ (l : List ℕ). In p l) (sym turn.parts) (inl refl)) in
        omega (arith, k.there, rank_lt m p i.0 i.1)

    pub slots_room : to + 4 ≤ length out
    slots_room = omega (arith, s.writing.room, slots_length slots base m (parts_in w), ap length turn.parts)

    pub slots_more : {v : ℕ} {next : List ℕ} → v ≡ entry_from slots base m p → next ≡ sets out to (bytes_of 4 v) → SlotsLeft slots base m q start at next r (to + 4)
    slots_more {v} {next} e f =
        let one = bytes_of 4 (entry_from slots base m p) in
        record {
          writing = write_more start at _ out to (slot_bytes slots base m (parts_in w)) one (slot_bytes slots base m (parts_in r)) next (to + 4) s.writing
              (ap (slot_bytes slots base m) turn.parts ∙ slots_cons slots base m p (parts_in r))
              (f ∙ ap (λ (z : ℕ). sets out to (bytes_of 4 z)) e)
              (ap (λ (z : ℕ). to + z) (sym (length-bytes 4 (entry_from slots base m p))));
          among = λ y i. s.among y (subst (λ (l : List ℕ). In y l) (sym turn.parts) (inr i));
        }

  pub slots_done : w ≡ 0 → out ≡ sets start at (flat (map (bytes_of 4) (remote_slots slots base m q)))
  slots_done e =
      write_done start at _ out to (slot_bytes slots base m (parts_in w)) s.writing
      (ap (λ (z : ℕ). slot_bytes slots base m (parts_in z)) e ∙ ap (slot_bytes slots base m) parts_none ∙ slots_nil slots base m)
