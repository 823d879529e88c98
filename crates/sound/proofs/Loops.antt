-- The nested loops that look for the first fault, on plain values, for any set and any test: `says part slot r` where it may answer r of that
-- row. Assumes nothing.
use Prim.Native.Nat.{ℕ, ◌+◌, ◌-◌, ◌≤◌, ◌<◌}
use native.Mathlib.Nat.{not-suc-le-zero, eq-or-lt_of_le}
use native.Mathlib.Numerals.{add-one}
use native.Mathlib.Omega.{arith}
use mathlib.Core.Path.{◌≡◌, refl, sym, ap, ◌∙◌, subst}
use mathlib.Core.Bool.{Bool, true, false}
use mathlib.Core.Logic.{⊎_elim}
use mathlib.Core.List.{[]}
use mathlib.Core.Option as math
use lib.ListN.{length, get_or, drop, drop_of_length-le}
use lib.Seq.{drop-cons}
use Rattle.std.specs.Prelude.{Option, None, Some}
use Rattle.laws.specs.Lists.{from, up_to, first_bad}
use Rattle.laws.proofs.FirstBad.{sub_step}
use Rattle.paper.specs.declared.Part.{Part}
use Rattle.paper.specs.declared.Slot.{Slot}
use Rattle.paper.specs.Outcome.{Place, at_row}
use Rattle.paper.specs.Image.{Set}
use Rattle.paper.specs.Sound.{first_fault_of}
use Rattle.sound.specs.Faults.{fault_place, Tells, FirstFault}

-- the slot found in part p, or what is found behind the part
abbrev or_later : ℕ → math.Option ℕ → math.Option Place → math.Option Place
or_later p o r = elim o [ math.none ↦ r | math.some s ↦ math.some (at_row p s) ]

-- the first fault of the parts from p on, and of slot s of part p and all after it
abbrev from_part : (ℕ → ℕ → Bool) → Set → ℕ → math.Option Place
from_part ok S p = first_fault_of ok p (drop p S)

abbrev from_slot : (ℕ → ℕ → Bool) → Set → ℕ → ℕ → math.Option Place
from_slot ok S p s = or_later p (first_bad (ok p) (from s (length (get_or S p []) - s))) (from_part ok S (p + 1))

abbrev part_at : ℕ → Part
part_at p = record { 0 = p }

abbrev slot_at : ℕ → Slot
slot_at s = record { 0 = s }

module _ (says : Part → Slot → Bool → Type 0) (S : Set) where
  -- the invariants of the two loops: no fault so far, and what is left gives the answer
  pub record AtPart (p : ℕ) (fault : Option (Part × Slot)) : Type 0 where
    pub clear : fault ≡ None
    pub left : (ok : ℕ → ℕ → Bool) → Tells says S ok → from_part ok S p ≡ first_fault_of ok 0 S

  pub record AtSlot (p s : ℕ) (fault : Option (Part × Slot)) : Type 0 where
    pub clear : fault ≡ None
    pub passed : (t : Slot) → t.0 < s → says (part_at p) t true
    pub left : (ok : ℕ → ℕ → Bool) → Tells says S ok → from_slot ok S p s ≡ first_fault_of ok 0 S

module _ {says : Part → Slot → Bool → Type 0} {S : Set} where
  pub start : AtPart says S 0 None
  start = record { clear = refl; left = λ ok tells. refl }

  pub enter : {p : ℕ} {fault : Option (Part × Slot)} → AtPart says S p fault → p < length S → AtSlot says S p 0 fault
  unfolding first_fault_of up_to
  enter {p} at h = record {
    clear = at.clear;
    passed = λ t l. absurd (not-suc-le-zero l);
    left = λ ok tells.
        let z : length (get_or S p []) - 0 ≡ length (get_or S p []) = omega arith in
        let left = at.left ok tells in
        rw (z, add-one p) (rw (drop-cons S p [] h) at left);
  }

  module _ {p s : ℕ} {fault : Option (Part × Slot)} (at : AtSlot says S p s fault) where
    module _ (h : s < length (get_or S p [])) {r : Bool} (said : says (part_at p) (slot_at s) r) where
      pub skip : r ≡ true → AtSlot says S p (s + 1) fault
      unfolding first_bad from
      skip kept =
          let yes : says (part_at p) (slot_at s) true = subst (says (part_at p) (slot_at s)) kept said in
          record {
            clear = at.clear;
            passed = λ t l. ⊎_elim (λ (e : t.0 ≡ s). subst (λ (k : ℕ). says (part_at p) (slot_at k) true) (sym e) yes) (λ (m : t.0 < s). at.passed t m) (eq-or-lt_of_le (omega arith));
            left = λ ok tells.
                let keeps : ok p s ≡ true = sym (tells (part_at p) (slot_at s) true h yes) in
                let left = at.left ok tells in
                rw (add-one s) (rw (sub_step (length (get_or S p [])) s h, keeps) at left);
          }

      pub hit : r ≡ false → FirstFault says S (Some (part_at p, slot_at s))
      unfolding first_bad from
      hit broken = record {
        place = λ ok tells.
            let breaks : ok p s ≡ false = sym (tells (part_at p) (slot_at s) r h said) ∙ broken in
            let left = at.left ok tells in
            rw (sub_step (length (get_or S p [])) s h, breaks) at left;
      }

    pub leave : length (get_or S p []) ≤ s → AtPart says S (p + 1) fault
    unfolding first_bad from
    leave h = record {
      clear = at.clear;
      left = λ ok tells.
          let z : length (get_or S p []) - s ≡ 0 = omega arith in
          let left = at.left ok tells in
          rw z at left;
    }

  pub over : {p : ℕ} {fault : Option (Part × Slot)} → AtPart says S p fault → length S ≤ p → FirstFault says S fault
  unfolding first_fault_of
  over {p} at h = record {
    place = λ ok tells.
        let left = at.left ok tells in
        ap fault_place at.clear ∙ rw (drop_of_length-le S {i = p} h) at left;
  }
