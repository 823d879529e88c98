-- The rows and bytes of the new image, by the table of residence sets. Assumes nothing.
use Prim.Native.Nat.{ℕ, zero, suc, ◌+◌, ◌*◌, ◌^◌, ◌≤◌, ◌<◌}
use native.Mathlib.Nat.{suc-mul}
use native.Mathlib.Omega.{arith}
use mathlib.Core.Path.{◌≡◌, refl, sym, ap, ◌∙◌, subst}
use mathlib.Core.List.{List}
use lib.ListN.{length}
use Rattle.laws.proofs.Totals.{total-same}
use Rattle.laws.specs.Lists.{total}
use Rattle.part_set.specs.Masks.{count}
use Rattle.slots.specs.Slots.{tab, rows_to, bytes_to}
use Rattle.paper.specs.Placement.{image_for, WellPlaced}
use Rattle.paper.specs.Move.{migrated, Sizes, sizes_of}
use Rattle.demands.proofs.ForCode.Sizes.{rows-total, image_size}
use Rattle.index.specs.Index.{set_in}
use Rattle.plan.specs.Plan.{mesh, placing, new_set, moved_count, new_image, Sourced, Masked, Prepared}

-- a row takes a byte at least
row_long : (c : ℕ) → c ≤ c * (44 + 4 * c)
row_long zero = omega arith
row_long (suc c) = omega (arith, suc-mul c (44 + 4 * suc c))

rows_below_bytes : (M : ℕ → ℕ) (m : ℕ) → rows_to M m ≤ bytes_to M m
unfolding total
rows_below_bytes M zero = omega arith
rows_below_bytes M (suc m) = omega (arith, rows_below_bytes M m, row_long (count (M m)))

module _ {b l offs starts ord masks : List ℕ} {n m : ℕ} (source : Sourced b offs starts ord n m) (well : WellPlaced n (mesh b) (placing b l)) (masked : Masked b l masks) where
  same_sets : (f : ℕ → ℕ) → total (λ i. f (tab masks i)) m ≡ total (λ i. f (new_set b l i)) (length (mesh b))
  same_sets f =
      total-same (λ i. f (tab masks i)) (λ i. f (new_set b l i)) m (λ i h. ap f (masked.entry i (omega (arith, source.ordered.count))))
      ∙ ap (total (λ i. f (new_set b l i))) source.ordered.count

  well_here : WellPlaced (length (set_in b)) (mesh b) (placing b l)
  well_here = subst (λ (k : ℕ). WellPlaced k (mesh b) (placing b l)) (sym source.indexed.count) well

  pub rows_are : rows_to (tab masks) m ≡ (migrated (set_in b) l).rows
  unfolding migrated
  rows_are = same_sets count ∙ sym (rows-total (length (set_in b)) (mesh b) (placing b l) well_here)

  pub bytes_are : 8 + 4 * n + bytes_to (tab masks) m ≡ length (new_image b l)
  unfolding image_for
  bytes_are =
      omega (arith, same_sets (λ w. count w * (44 + 4 * count w)), image_size (length (set_in b)) (mesh b) (placing b l) well_here, source.indexed.count)

  pub rows_few : (migrated (set_in b) l).rows ≤ length (new_image b l)
  rows_few = omega (arith, rows_are, bytes_are, rows_below_bytes (tab masks) m)

-- the numbers of the answer
pub image_is : (b l : List ℕ) → (migrated (set_in b) l).image ≡ new_image b l
unfolding migrated
image_is b l = refl

pub numbers_are : (b l : List ℕ) (bytes rows moved : ℕ) → bytes ≡ length (new_image b l) → rows ≡ (migrated (set_in b) l).rows → moved ≡ moved_count b l
    → sizes_of (migrated (set_in b) l) ≡ record { length = bytes; rows = rows; moved = moved }
unfolding sizes_of migrated
numbers_are b l bytes rows moved eb er em = λ i. record { length = sym eb i; rows = sym er i; moved = sym em i }

pub bytes_is : (b l : List ℕ) {bytes rows moved : ℕ} → sizes_of (migrated (set_in b) l) ≡ record { length = bytes; rows = rows; moved = moved } → bytes ≡ length (new_image b l)
unfolding sizes_of migrated
bytes_is b l numbers = ap (λ (s : Sizes). s.length) (sym numbers)

-- and that they fit
module _ {b l offs starts ord ent masks counts : List ℕ} {n m bytes rows moved : ℕ} (prepared : Prepared b l offs starts ord ent masks counts n m)
    (numbers : sizes_of (migrated (set_in b) l) ≡ record { length = bytes; rows = rows; moved = moved }) where
  pub bytes_fit : bytes < 2 ^ 32
  bytes_fit = omega (arith, bytes_is b l numbers, prepared.small)

  rows_is : rows ≡ (migrated (set_in b) l).rows
  unfolding sizes_of
  rows_is = ap (λ (s : Sizes). s.rows) (sym numbers)

  pub rows_fit : rows < 2 ^ 32
  rows_fit = omega (arith, rows_is, rows_few prepared.source prepared.well prepared.masked, prepared.small)
