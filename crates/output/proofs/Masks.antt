-- The table of new residence sets is that of the paper's parts: so its slots and sums are theirs, and the rows are few, as the new image is small.
-- Assumes nothing.
use Prim.Native.Nat.{ℕ, zero, suc, ◌+◌, ◌*◌, ◌^◌, ◌≤◌, ◌<◌}
use native.Mathlib.Nat.{mul-le-mul_left}
use native.Mathlib.Omega.{arith}
use mathlib.Core.Path.{◌≡◌, sym, ap, ◌∙◌, subst}
use mathlib.Core.List.{List}
use lib.ListN.{length, get_or}
use Rattle.laws.proofs.Totals.{total-same}
use Rattle.laws.specs.Lists.{total}
use Rattle.part_set.specs.Masks.{count}
use Rattle.paper.specs.Placement.{image_for, WellPlaced}
use Rattle.index.specs.Index.{set_in}
use Rattle.plan.specs.Plan.{mesh, placing, made, new_image, Prepared}
use Rattle.slots.specs.Slots.{slot_of, tab, rows_to, bytes_to, most_rows}
use Rattle.slots.proofs.SlotLaws.{slot_same}
use Rattle.demands.proofs.ForCode.Spread.{mask_at, slot_by, mask_lt}
use Rattle.demands.proofs.ForCode.Sizes.{image_size}

-- a row takes 48 bytes or more
row-bytes : (k : ℕ) → 48 * k ≤ k * (44 + 4 * k)
row-bytes zero = omega arith
row-bytes (suc k) =
    let h : 48 ≤ 44 + 4 * suc k = omega arith in
    omega (arith, mul-le-mul_left (suc k) h)

rows-bytes : (M : ℕ → ℕ) (n : ℕ) → 48 * rows_to M n ≤ bytes_to M n
unfolding total
rows-bytes M zero = omega arith
rows-bytes M (suc n) = omega (arith, rows-bytes M n, row-bytes (count (M n)))

module _ {b l offs starts ord ent masks counts : List ℕ} {n m : ℕ} (P : Prepared b l offs starts ord ent masks counts n m) where
  pub well : WellPlaced (length (set_in b)) (mesh b) (placing b l)
  well = subst (λ (k : ℕ). WellPlaced k (mesh b) (placing b l)) (sym P.source.indexed.count) P.well

  pub mask_is : (i : ℕ) → i < m → get_or masks i 0 ≡ mask_at (made b l) (mesh b) i
  mask_is i h = P.masked.entry i (omega (arith, P.source.ordered.count))

  pub slot_is : (q i : ℕ) → i ≤ m → slot_of (tab masks) q i ≡ slot_by (made b l) (mesh b) q i
  unfolding slot_of slot_by
  slot_is q i h = slot_same (tab masks) (mask_at (made b l) (mesh b)) q i (λ j k. mask_is j (omega arith))

  pub masks_inside : (i : ℕ) → i < m → get_or masks i 0 < 2 ^ n
  masks_inside i h =
      subst (λ (k : ℕ). get_or masks i 0 < 2 ^ k) P.source.indexed.count
      (subst (λ (k : ℕ). k < 2 ^ length (set_in b)) (sym (mask_is i h)) (mask_lt (length (set_in b)) (mesh b) (placing b l) i))

  bytes_are : length (new_image b l) ≡ 8 + 4 * length (set_in b) + bytes_to (tab masks) m
  unfolding image_for
  bytes_are =
      let M : ℕ → ℕ = mask_at (made b l) (mesh b) in
      let g : ℕ → ℕ = λ i. count (M i) * (44 + 4 * count (M i)) in
      let e : bytes_to (tab masks) m ≡ total g (length (mesh b)) =
      total-same (λ i. count (get_or masks i 0) * (44 + 4 * count (get_or masks i 0))) g m (λ i h. ap (λ (w : ℕ). count w * (44 + 4 * count w)) (mask_is i h))
      ∙ ap (total g) P.source.ordered.count in
      image_size (length (set_in b)) (mesh b) (placing b l) well ∙ ap (λ (k : ℕ). 8 + 4 * length (set_in b) + k) (sym e)

  pub head_there : 8 ≤ length (new_image b l)
  head_there = omega (arith, bytes_are)

  pub rows_few : rows_to (tab masks) m ≤ most_rows
  rows_few = omega (arith, bytes_are, P.small, rows-bytes (tab masks) m)
