-- The tables of slots as `slots` leaves them, in one record: where the slots of an entity begin, the slots, where the parts begin, and the entities of
-- each part. What follows of them for the entries of entities and the members of parts. Assumes nothing.
use Prim.Native.Nat.{ℕ, ◌+◌, ◌-◌, ◌≤◌, ◌<◌}
use native.Mathlib.Omega.{arith}
use mathlib.Core.Path.{◌≡◌, ap, ◌∙◌}
use mathlib.Core.List.{List}
use lib.ListN.{length, get_or, take, drop}
use lib.Dec.{T}
use Rattle.laws.specs.Lists.{keep, up_to, total}
use Rattle.laws.proofs.Totals.{total_suc, total_up}
use Rattle.part_set.specs.Masks.{has, count, rank_of}
use Rattle.part_set.proofs.Rank.{rank_lt}
use Rattle.slots.specs.Slots.{slot_of, tab, rows_to, SlotsAsked, SlotsFilled, ListsAsked, ListsFilled}
use Rattle.writer.specs.Entries.{entry_of, Entered}
use Rattle.output.proofs.Listed.{listed}

-- of m entities in n parts
pub record TablesFilled (masks base slots members begins : List ℕ) (n m : ℕ) : Type 0 where
  pub few_parts : n ≤ 64
  pub masks_room : m ≤ length masks
  pub base_room : m ≤ length base
  pub slots_room : rows_to (tab masks) m ≤ length slots
  pub base_is : (i : ℕ) → i < m → get_or base i 0 ≡ rows_to (tab masks) i
  pub slots_are : (i q : ℕ) → i < m → q < 64 → T (has (get_or masks i 0) q) → get_or slots (rows_to (tab masks) i + rank_of (get_or masks i 0) q) 0 ≡ slot_of (tab masks) q i
  pub begins_room : n < length begins
  pub begins_are : (q : ℕ) → q ≤ n → get_or begins q 0 ≡ total (λ p. slot_of (tab masks) p m) q
  pub members_room : total (λ p. slot_of (tab masks) p m) n ≤ length members
  pub members_are : (i q : ℕ) → i < m → q < 64 → T (has (get_or masks i 0) q) → get_or members (get_or begins q 0 + slot_of (tab masks) q i) 0 ≡ i

pub filled : {masks base₀ slots₀ rows₀ base slots rows begins members₀ members : List ℕ} {n m : ℕ} → SlotsAsked masks m base₀ slots₀ rows₀
    → SlotsFilled (tab masks) m base₀ slots₀ rows₀ base slots rows → ListsAsked masks m n slots begins members₀ → ListsFilled (tab masks) m begins members₀ members
    → TablesFilled masks base slots members begins n m
filled a f g h = record {
  few_parts = g.few_parts;
  masks_room = a.there;
  base_room = omega (arith, a.room_base, f.same_base);
  slots_room = g.room_slots;
  base_is = f.begins;
  slots_are = g.slots_are;
  begins_room = g.room_starts;
  begins_are = g.begins;
  members_room = omega (arith, g.room_list, h.same);
  members_are = h.entities;
}

module _ {masks base slots members begins : List ℕ} {n m : ℕ} (F : TablesFilled masks base slots members begins n m) where
  -- ---- an entity

  -- its slots are all there
  pub slots_there : (i : ℕ) → i < m → get_or base i 0 + count (get_or masks i 0) ≤ length slots
  slots_there i h =
      let g : ℕ → ℕ = λ j. count (get_or masks j 0) in
      omega (arith, F.base_is i h, total_suc g i, total_up g (i + 1) m (omega arith), F.slots_room)

  module _ (i q : ℕ) (h : i < m) (l : q < 64) (t : T (has (get_or masks i 0) q)) where
    pub entered : Entered masks base slots q i
    entered = record {
      masked = omega (arith, F.masks_room);
      based = omega (arith, F.base_room);
      there = omega (arith, rank_lt (get_or masks i 0) q l t, slots_there i h);
    }

    pub entry_is : entry_of masks base slots q i ≡ slot_of (tab masks) q i
    entry_is = ap (λ (k : ℕ). get_or slots (k + rank_of (get_or masks i 0) q) 0) (F.base_is i h) ∙ F.slots_are i q h l t

  -- ---- a part

  module _ (q : ℕ) (h : q < n) where
    next_is : get_or begins (q + 1) 0 ≡ get_or begins q 0 + slot_of (tab masks) q m
    next_is = omega (arith, F.begins_are q (omega arith), F.begins_are (q + 1) (omega arith), total_suc (λ p. slot_of (tab masks) p m) q)

    pub begins_up : get_or begins q 0 ≤ get_or begins (q + 1) 0
    begins_up = omega (arith, next_is)

    pub part_count : get_or begins (q + 1) 0 - get_or begins q 0 ≡ slot_of (tab masks) q m
    part_count = omega (arith, next_is)

    pub part_listed : get_or begins q 0 + (get_or begins (q + 1) 0 - get_or begins q 0) ≤ length members
    part_listed =
        omega (arith, begins_up, F.begins_are (q + 1) (omega arith), total_up (λ p. slot_of (tab masks) p m) (q + 1) n (omega arith), F.members_room)

    -- the members of a part are the entities that have its bit
    pub part_members : take (get_or begins (q + 1) 0 - get_or begins q 0) (drop (get_or begins q 0) members) ≡ keep (λ i. has (get_or masks i 0) q) (up_to m)
    part_members =
        ap (λ (k : ℕ). take k (drop (get_or begins q 0) members)) part_count
        ∙ listed (tab masks) q (get_or begins q 0) members m (λ i l t. F.members_are i q l (omega (arith, F.few_parts)) t) (omega (arith, part_listed, part_count))
