-- The tables of slots, filled one after the other from zeros: what each function wants is there, and what they leave together. Assumes nothing.
use Prim.Native.Nat.{ℕ, ◌≤◌, ◌<◌}
use native.Mathlib.Omega.{arith}
use mathlib.Core.List.{List}
use lib.ListN.{length, replicate, length-replicate}
use Rattle.laws.specs.Lists.{total}
use Rattle.residence.proofs.covered.Marks.{zeros_at}
use Rattle.slots.specs.Slots.{tab, most_rows, SlotsAsked, SlotsFilled, StartsFilled, ListsAsked, ListsFilled}
use Rattle.slots.proofs.Joined.{starts_asked, lists_asked}
use Rattle.plan.specs.Plan.{Prepared}
use Rattle.output.proofs.TablesFilled.{TablesFilled, filled}
use Rattle.output.proofs.Masks.{masks_inside, rows_few}

-- a table of k entries before it is filled
abbrev zeros : ℕ → List ℕ
zeros k = replicate k 0

module _ {b l offs starts ord ent masks counts : List ℕ} {n m : ℕ} (P : Prepared b l offs starts ord ent masks counts n m) where
  -- what `fill_slots` wants
  pub slots_wanted : SlotsAsked masks m (zeros 21846) (zeros 21846) (zeros 64)
  slots_wanted = record {
    there = omega (arith, P.masked.room, P.source.ordered.few);
    few = P.source.ordered.few;
    few_rows = rows_few P;
    room_base = omega (arith, P.source.ordered.few, length-replicate {A = ℕ} 21846 0);
    room_slots = omega (arith, rows_few P, length-replicate {A = ℕ} 21846 0);
    parts = omega (arith, length-replicate {A = ℕ} 64 0);
    none = λ q h. zeros_at 64 q;
  }

  module _ {base slots rows : List ℕ} (f : SlotsFilled (tab masks) m (zeros 21846) (zeros 21846) (zeros 64) base slots rows) where
    few_starts : n < length (zeros 65)
    few_starts = omega (arith, P.source.indexed.few, length-replicate {A = ℕ} 65 0)

    -- what `part_starts` wants
    pub starts_wanted : (n ≤ length rows) × (n < length (zeros 65)) × (total (tab rows) n ≤ most_rows)
    starts_wanted = starts_asked P.source.indexed.few (masks_inside P) slots_wanted f (zeros 65) few_starts

    module _ {begins : List ℕ} (g : StartsFilled rows n (zeros 65) begins) where
      -- what `fill_lists` wants
      pub lists-wanted : ListsAsked masks m n slots begins (zeros 21846)
      lists-wanted =
          lists_asked P.source.indexed.few (masks_inside P) slots_wanted f (zeros 65) begins (zeros 21846) g few_starts
          (omega (arith, rows_few P, length-replicate {A = ℕ} 21846 0))

      -- and what all of them leave
      pub all-filled : {members : List ℕ} → ListsFilled (tab masks) m begins (zeros 21846) members → TablesFilled masks base slots members begins n m
      all-filled h = filled slots_wanted f lists-wanted h
