-- How many rows and bytes the image of a spread has, by the residence sets of the mesh's entities: an entity has a row in each part of its set, and
-- a row is 44 bytes and 4 for each part of the set.
-- How code uses it: sums grow at their end, so that one turn of a loop over the entities is one unfolding of `total`.
-- Assumes nothing.
use Prim.Native.Nat.{ℕ, zero, suc, ◌+◌, ◌-◌, ◌*◌, ◌^◌, ◌<◌, ◌≤◌}
use native.Mathlib.Nat.{add-zero, mul-one, zero-mul, suc-mul}
use native.Mathlib.Omega.{arith}
use mathlib.Core.Path.{◌≡◌, refl, sym, ap, ap₂, ◌∙◌, subst}
use mathlib.Core.Bool.{Bool, true, false, cond, ◌&&◌}
use mathlib.Core.List.{List, [], ◌∷◌, ◌++◌, map, append-nil}
use lib.ListN.{length, get_or, replicate, length-map, length-append, length-replicate}
use lib.Pow.{pow_mono}
use lib.Dec.{T, eqb, ltb, eqb→eq}
use Rattle.laws.specs.Lists.{every, keep, flat, from, up_to, total}
use Rattle.field.specs.Bytes.{bytes_of, finite}
use Rattle.part_set.specs.Masks.{has, count, parts_in, others}
use Rattle.paper.specs.Image.{Row, row_bytes, bytes_of_part, image_of, row_total}
use Rattle.paper.specs.Mesh.{Entity, name_of, name, no_ent, slot_in}
use Rattle.paper.specs.Placement.{Placement, spread, body_in, row_for, rows_for, shape_fits, WellPlaced}
use Rattle.laws.proofs.Tests.{split2}
use Rattle.laws.proofs.Members.{get_or_in, in_get_or}
use Rattle.laws.proofs.Agree.{map_of_map}
use Rattle.laws.proofs.Totals.{total-same, total_add, total_zero, up_to_snoc, kept_none, kept_suc}
use Rattle.field.proofs.Numbers.{length-bytes, length-written}
use Rattle.part_set.proofs.MaskParts.{others-count, in_parts_in}
use Rattle.part_set.proofs.Walk.{count_parts}
use Rattle.part_set.proofs.MaskOps.{count-from, count_ones}
use Rattle.demands.proofs.Entities.Fits.{EntOk, faces_of_lem}
use Rattle.demands.proofs.Rows.Bytes.{length_each}
use Rattle.demands.proofs.Rows.Made.{rows-part}
use Rattle.demands.proofs.Mesh.Spread.{spread-length}
use Rattle.demands.proofs.ForCode.Spread.{mask_at, slot_by, part_by_masks, length_by_masks, mask_lt, few_parts}
use Rattle.demands.proofs.Mesh.ToFit.{ent_fits_lem}

-- ---- sums

total_fours : (n : ℕ) → total (λ _. 4) n ≡ 4 * n
unfolding total
total_fours zero = refl
total_fours (suc n) = omega (arith, total_fours n)

-- sums of sums, in either order
pub total_swap : (g : ℕ → ℕ → ℕ) (m n : ℕ) → total (λ q. total (g q) n) m ≡ total (λ i. total (λ q. g q i) m) n
unfolding total
total_swap g zero n = sym (total_zero (λ _. 0) n (λ _. refl))
total_swap g (suc m) n = ap (λ (k : ℕ). k + total (g m) n) (total_swap g m n) ∙ sym (total_add (λ i. total (λ q. g q i) m) (g m) n)

-- ---- what is written for each number below n

module _ {A : Type 0} (f : ℕ → List A) (t : ℕ → Bool) where
  kept_append : (xs ys : List ℕ) → length (flat (map f (keep t (xs ++ ys)))) ≡ length (flat (map f (keep t xs))) + length (flat (map f (keep t ys)))
  unfolding keep flat
  kept_append [] ys = omega arith
  kept_append (x ∷ xs) ys = go (t x) (kept_append xs ys)
    where
      go : (b : Bool) → length (flat (map f (keep t (xs ++ ys)))) ≡ length (flat (map f (keep t xs))) + length (flat (map f (keep t ys)))
          → length (flat (map f (cond b (x ∷ keep t (xs ++ ys)) (keep t (xs ++ ys))))) ≡ length (flat (map f (cond b (x ∷ keep t xs) (keep t xs)))) + length (flat (map f (keep t ys)))
      go true e = omega (arith, length-append (f x) (flat (map f (keep t (xs ++ ys)))), length-append (f x) (flat (map f (keep t xs))), e)
      go false e = e

  kept_one : (x : ℕ) → length (flat (map f (keep t (x ∷ [])))) ≡ cond (t x) (length (f x)) 0
  unfolding keep flat
  kept_one x = go (t x)
    where
      go : (b : Bool) → length (flat (map f (cond b (x ∷ []) []))) ≡ cond b (length (f x)) 0
      go true = ap length (append-nil (f x))
      go false = refl

  -- what is written for those that are kept
  pub total_kept : (n : ℕ) → length (flat (map f (keep t (up_to n)))) ≡ total (λ i. cond (t i) (length (f i)) 0) n
  unfolding total
  total_kept zero = none
    where
      none : length (flat (map f (keep t (up_to 0)))) ≡ 0
      none = unfold up_to from keep flat in refl
  total_kept (suc n) =
      ap (λ (l : List ℕ). length (flat (map f (keep t l)))) (up_to_snoc n) ∙ kept_append (up_to n) (n ∷ []) ∙ ap₂ ◌+◌ (total_kept n) (kept_one n)

all_kept : (xs : List ℕ) → keep (λ _. true) xs ≡ xs
unfolding keep
all_kept [] = refl
all_kept (x ∷ xs) = ap (λ (l : List ℕ). x ∷ l) (all_kept xs)

pub total-flat : {A : Type 0} (f : ℕ → List A) (n : ℕ) → length (flat (map f (up_to n))) ≡ total (λ i. length (f i)) n
total-flat f n = ap (λ (l : List ℕ). length (flat (map f l))) (sym (all_kept (up_to n))) ∙ total_kept f (λ _. true) n

-- ---- by parts and by sets

-- the same for each that passes
pub total_each : (t : ℕ → Bool) (w n : ℕ) → total (λ i. cond (t i) w 0) n ≡ length (keep t (up_to n)) * w
unfolding total
total_each t w zero = sym (ap (λ (k : ℕ). k * w) (kept_none t) ∙ zero-mul w)
total_each t w (suc n) = go (t n) (total_each t w n) (kept_suc t n)
  where
    go : (b : Bool) → total (λ i. cond (t i) w 0) n ≡ length (keep t (up_to n)) * w → length (keep t (up_to (suc n))) ≡ length (keep t (up_to n)) + cond b 1 0
        → total (λ i. cond (t i) w 0) n + cond b w 0 ≡ length (keep t (up_to (suc n))) * w
    go true e l =
        let k = length (keep t (up_to n)) in
        let l' : length (keep t (up_to (suc n))) ≡ suc k = omega arith in
        ap (λ (x : ℕ). x + w) e ∙ sym (suc-mul k w) ∙ ap (λ (x : ℕ). x * w) (sym l')
    go false e l =
        let l' : length (keep t (up_to (suc n))) ≡ length (keep t (up_to n)) = omega arith in
        add-zero (total (λ i. cond (t i) w 0) n) ∙ e ∙ ap (λ (x : ℕ). x * w) (sym l')

-- over the parts below n, the same for each part of a set
pub total_parts : (n m w : ℕ) → n ≤ 64 → m < 2 ^ n → total (λ q. cond (has m q) w 0) n ≡ count m * w
unfolding up_to
total_parts n m w h l =
    total_each (has m) w n
    ∙ ap (λ (k : ℕ). k * w) (count-from n m l ∙ sym (count_ones m (omega (arith, pow_mono {i = n} {j = 64} h))))

-- ---- the bytes of a row

body_size : (part es : List Entity) (e : Entity) → EntOk es e → (d : ℕ) → e.dim ≡ d → length (body_in part d e.shape) ≡ 24
unfolding body_in shape_fits
body_size part es e k zero p =
    let s = split2 (eqb (length e.shape) 3) (every (λ x. ltb x (2 ^ 64) && finite x) e.shape) (subst (λ (z : ℕ). T (shape_fits es z e.shape)) p k.shape) in
    omega (arith, length_each 8 (λ k. k) e.shape, eqb→eq (length e.shape) 3 s.0)
body_size part es e k (suc d) p =
    let g : ℕ → ℕ = λ k. slot_in part (name_of d k) in
    omega (
      arith,
      length-append (flat (map (λ k. bytes_of 4 (g k)) e.shape)) (replicate (24 - 4 * (d + 2)) 0),
      length_each 4 g e.shape,
      length-replicate {A = ℕ} (24 - 4 * (d + 2)) 0,
      (faces_of_lem es d e.shape (subst (λ (z : ℕ). T (shape_fits es z e.shape)) p k.shape)).count,
      k.dim,
    )

-- a row whose body has its 24 bytes
bytes-length : (r : Row) → length r.body ≡ 24 → length (row_bytes r) ≡ 48 + 4 * length r.slots
unfolding row_bytes bytes_of
bytes-length r h = omega (arith, length-append r.body (flat (map (bytes_of 4) r.slots)), length-written r.slots)

-- what a row has for an entity whose set is m
abbrev pub row_size : ℕ → ℕ
row_size m = 44 + 4 * count m

-- ---- the sizes of the rows of a spread

module _ (n : ℕ) (es : List Entity) (place : Placement) (W : WellPlaced n es place) where
  pub row_size_lem : (q i : ℕ) → q < n → i < length es → T (has (mask_at (spread n es place) es i) q)
      → length (row_bytes (row_for (spread n es place) q (get_or es i no_ent))) ≡ row_size (mask_at (spread n es place) es i)
  unfolding row_for
  row_size_lem q i h l t =
      let ps = spread n es place in
      let e = get_or es i no_ent in
      let m = mask_at ps es i in
      let few = few_parts n es place W in
      let some = in_get_or (parts_in m) q 0 (in_parts_in m q (omega arith) t) in
      let slot : ℕ → ℕ = λ r. slot_in (get_or ps r []) (name e) in
      bytes-length (row_for ps q e) (body_size (get_or ps q []) es e (ent_fits_lem n es place W e (get_or_in es i no_ent l)) e.dim refl)
      ∙ omega (arith, length-map (others m q) slot, others-count m q (omega arith) t, some.1, count_parts m)

  -- the rows of a part
  pub rows_by_masks : (q : ℕ) → q < n → get_or (rows_for (spread n es place)) q []
      ≡ map (λ i. row_for (spread n es place) q (get_or es i no_ent)) (keep (λ i. has (mask_at (spread n es place) es i) q) (up_to (length es)))
  rows_by_masks q h =
      let ps = spread n es place in
      rows-part ps q ∙ ap (map (row_for ps q)) (part_by_masks n es place q h)
      ∙ map_of_map (row_for ps q) (λ i. get_or es i no_ent) (keep (λ i. has (mask_at ps es i) q) (up_to (length es)))

  -- 5. the bytes of a part
  pub part_size : (q : ℕ) → q < n → length (bytes_of_part (get_or (rows_for (spread n es place)) q []))
      ≡ 4 + total (λ i. cond (has (mask_at (spread n es place) es i) q) (row_size (mask_at (spread n es place) es i)) 0) (length es)
  unfolding bytes_of_part
  part_size q h =
      let ps = spread n es place in
      let rows = get_or (rows_for ps) q [] in
      let f : ℕ → Row = λ i. row_for ps q (get_or es i no_ent) in
      let t : ℕ → Bool = λ i. has (mask_at ps es i) q in
      let sized : length (flat (map row_bytes rows)) ≡ total (λ i. cond (t i) (row_size (mask_at ps es i)) 0) (length es) =
      ap (λ (rs : List Row). length (flat (map row_bytes rs))) (rows_by_masks q h)
      ∙ ap (λ (bs : List (List ℕ)). length (flat bs)) (map_of_map row_bytes f (keep t (up_to (length es))))
      ∙ total_kept (λ i. row_bytes (f i)) t (length es)
      ∙ total-same (λ i. cond (t i) (length (row_bytes (f i))) 0) (λ i. cond (t i) (row_size (mask_at ps es i)) 0) (length es) (λ i l.
      when (t i) (length (row_bytes (f i))) (row_size (mask_at ps es i)) (row_size_lem q i h l)) in
      length-append (bytes_of 4 (length rows)) (flat (map row_bytes rows)) ∙ ap₂ ◌+◌ (length-bytes 4 (length rows)) sized
    where
      when : (b : Bool) (x y : ℕ) → (T b → x ≡ y) → cond b x 0 ≡ cond b y 0
      when true x y e = e tt
      when false x y e = refl

  -- by parts, then by entities
  turned : (w : ℕ → ℕ) → total (λ q. total (λ i. cond (has (mask_at (spread n es place) es i) q) (w i) 0) (length es)) n
      ≡ total (λ i. count (mask_at (spread n es place) es i) * w i) (length es)
  turned w =
      let m : ℕ → ℕ = mask_at (spread n es place) es in
      total_swap (λ q i. cond (has (m i) q) (w i) 0) n (length es)
      ∙ total-same (λ i. total (λ q. cond (has (m i) q) (w i) 0) n) (λ i. count (m i) * w i) (length es)
      (λ i _. total_parts n (m i) (w i) (few_parts n es place W) (mask_lt n es place i))

  -- all rows
  pub rows-total : row_total (rows_for (spread n es place)) ≡ total (λ i. count (mask_at (spread n es place) es i)) (length es)
  unfolding row_total rows_for slot_by
  rows-total =
      let ps = spread n es place in
      let part : ℕ → List Row = λ q. map (row_for ps q) (get_or ps q []) in
      let m : ℕ → ℕ = mask_at ps es in
      ap (λ (k : ℕ). length (flat (map part (up_to k)))) (spread-length n es place)
      ∙ total-flat part n
      ∙ total-same (λ q. length (part q)) (λ q. total (λ i. cond (has (m i) q) 1 0) (length es)) n (λ q h.
      length-map (get_or ps q []) (row_for ps q) ∙ length_by_masks n es place q h
      ∙ sym (total_each (λ i. has (m i) q) 1 (length es) ∙ mul-one (length (keep (λ i. has (m i) q) (up_to (length es))))))
      ∙ turned (λ _. 1)
      ∙ total-same (λ i. count (m i) * 1) (λ i. count (m i)) (length es) (λ i _. mul-one (count (m i)))

  -- and all bytes
  pub image_size : length (image_of (rows_for (spread n es place)))
      ≡ 8 + 4 * n + total (λ i. count (mask_at (spread n es place) es i) * row_size (mask_at (spread n es place) es i)) (length es)
  unfolding image_of rows_for
  image_size =
      let ps = spread n es place in
      let part : ℕ → List Row = λ q. map (row_for ps q) (get_or ps q []) in
      let m : ℕ → ℕ = mask_at ps es in
      let W : ℕ → ℕ = λ q. total (λ i. cond (has (m i) q) (row_size (m i)) 0) (length es) in
      let parts : length (flat (map bytes_of_part (rows_for ps))) ≡ total (λ q. 4 + W q) n =
      ap (λ (k : ℕ). length (flat (map bytes_of_part (map part (up_to k))))) (spread-length n es place)
      ∙ ap (λ (bs : List (List ℕ)). length (flat bs)) (map_of_map bytes_of_part part (up_to n))
      ∙ total-flat (λ q. bytes_of_part (part q)) n
      ∙ total-same (λ q. length (bytes_of_part (part q))) (λ q. 4 + W q) n (λ q h.
      ap (λ (rows : List Row). length (bytes_of_part rows)) (sym (rows-part ps q)) ∙ part_size q h) in
      omega (arith, parts, total_add (λ _. 4) W n, total_fours n, turned (λ i. row_size (m i)))
