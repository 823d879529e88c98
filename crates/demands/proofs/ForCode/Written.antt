-- The image of a spread as it is written, from front to back: part by part, and in each the rows of the entities that have its bit, in their order.
-- How code uses it: what is written grows at its end, so that a turn of the loop over the entities, and of that over the parts, is one unfolding; the
-- lengths say where each row and each part begins.
-- Assumes nothing.
use Prim.Native.Nat.{ℕ, zero, suc, ◌+◌, ◌<◌, ◌≤◌}
use native.Mathlib.Numerals.{add-one}
use native.Mathlib.Omega.{arith}
use mathlib.Core.Path.{◌≡◌, refl, sym, ap, ap₂, ◌∙◌}
use mathlib.Core.Bool.{Bool, true, false, cond}
use mathlib.Core.List.{List, [], ◌∷◌, ◌++◌, map, append_assoc, append-nil}
use lib.ListN.{length, get_or, length-append}
use lib.Seq.{take-length}
use lib.Dec.{T}
use Rattle.laws.specs.Lists.{keep, flat, from, up_to, total}
use Rattle.field.specs.Bytes.{bytes_of}
use Rattle.part_set.specs.Masks.{has}
use Rattle.paper.specs.Image.{Row, row_bytes, bytes_of_part, image_of}
use Rattle.paper.specs.Mesh.{Entity, Parts}
use Rattle.paper.specs.Placement.{Placement, spread, rows_for, image_for, WellPlaced}
use Rattle.laws.proofs.Agree.{map_of_map}
use Rattle.laws.proofs.Totals.{up_to_snoc}
use Rattle.field.proofs.Numbers.{length-bytes}
use Rattle.demands.proofs.Rows.Made.{rows-count}
use Rattle.demands.proofs.Mesh.Spread.{spread-length}
use Rattle.demands.proofs.Fit.Rows.{in_rows}
use Rattle.demands.proofs.ForCode.Spread.{mask_at, slot_by, take_read, length_by_masks}
use Rattle.demands.proofs.ForCode.Sizes.{row_size, row_size_lem}
use Rattle.demands.proofs.ForCode.SlotClosures.{map-append}
use Rattle.demands.proofs.ForCode.SpreadRows.{row_by, placed_in, row_by_masks, part_rows_by_masks}

-- ---- what is written

-- the rows in part q of the first i entities
unfoldable pub rows_written : Parts → List Entity → (ℕ → ℕ) → ℕ → ℕ → List ℕ
rows_written ps es c q zero = []
rows_written ps es c q (suc i) = rows_written ps es c q i ++ cond (has (mask_at ps es i) q) (row_bytes (row_by ps es c q i)) []

-- part q: how many rows, and the rows
unfoldable pub part_written : Parts → List Entity → (ℕ → ℕ) → ℕ → List ℕ
part_written ps es c q = bytes_of 4 (slot_by ps es q (length es)) ++ rows_written ps es c q (length es)

-- the first q parts
unfoldable pub parts_written : Parts → List Entity → (ℕ → ℕ) → ℕ → List ℕ
parts_written ps es c zero = []
parts_written ps es c (suc q) = parts_written ps es c q ++ part_written ps es c q

module _ (ps : Parts) (es : List Entity) (c : ℕ → ℕ) where
  pub rows_none : (q : ℕ) → rows_written ps es c q 0 ≡ []
  unfolding rows_written
  rows_none q = refl

  pub rows_more : (q i : ℕ) → rows_written ps es c q (i + 1) ≡ rows_written ps es c q i ++ cond (has (mask_at ps es i) q) (row_bytes (row_by ps es c q i)) []
  unfolding rows_written
  rows_more q i = rw (add-one i)

  pub parts_none : parts_written ps es c 0 ≡ []
  unfolding parts_written
  parts_none = refl

  pub parts_more : (q : ℕ) → parts_written ps es c (q + 1) ≡ parts_written ps es c q ++ part_written ps es c q
  unfolding parts_written
  parts_more q = rw (add-one q)

-- ---- what is kept of the numbers below n, one more at the end

keep_append : {A : Type 0} (t : A → Bool) (xs ys : List A) → keep t (xs ++ ys) ≡ keep t xs ++ keep t ys
unfolding keep
keep_append t [] ys = refl
keep_append {A} t (x ∷ xs) ys = go (t x) (keep_append t xs ys)
  where
    go : (b : Bool) → keep t (xs ++ ys) ≡ keep t xs ++ keep t ys → cond b (x ∷ keep t (xs ++ ys)) (keep t (xs ++ ys)) ≡ cond b (x ∷ keep t xs) (keep t xs) ++ keep t ys
    go true e = ap (λ (l : List A). x ∷ l) e
    go false e = e

module _ {A : Type 0} where
  flat_append : (xss yss : List (List A)) → flat (xss ++ yss) ≡ flat xss ++ flat yss
  unfolding flat
  flat_append [] yss = refl
  flat_append (xs ∷ xss) yss = ap (λ (l : List A). xs ++ l) (flat_append xss yss) ∙ sym (append_assoc xs (flat xss) (flat yss))

  kept_snoc : (f : ℕ → List A) (t : ℕ → Bool) (n : ℕ) → flat (map f (keep t (up_to (suc n)))) ≡ flat (map f (keep t (up_to n))) ++ cond (t n) (f n) []
  unfolding keep flat
  kept_snoc f t n =
      ap (λ (l : List ℕ). flat (map f (keep t l))) (up_to_snoc n)
      ∙ ap (λ (l : List ℕ). flat (map f l)) (keep_append t (up_to n) (n ∷ []))
      ∙ ap flat (map-append f (keep t (up_to n)) (keep t (n ∷ [])))
      ∙ flat_append (map f (keep t (up_to n))) (map f (keep t (n ∷ [])))
      ∙ ap (λ (l : List A). flat (map f (keep t (up_to n))) ++ l) (one (t n))
    where
      one : (b : Bool) → flat (map f (cond b (n ∷ []) [])) ≡ cond b (f n) []
      one true = append-nil (f n)
      one false = refl

  each_snoc : (f : ℕ → List A) (n : ℕ) → flat (map f (up_to (suc n))) ≡ flat (map f (up_to n)) ++ f n
  unfolding flat
  each_snoc f n =
      ap (λ (l : List ℕ). flat (map f l)) (up_to_snoc n) ∙ ap flat (map-append f (up_to n) (n ∷ [])) ∙ flat_append (map f (up_to n)) (f n ∷ [])
      ∙ ap (λ (l : List A). flat (map f (up_to n)) ++ l) (append-nil (f n))

rows_kept : (ps : Parts) (es : List Entity) (c : ℕ → ℕ) (q i : ℕ)
    → flat (map (λ j. row_bytes (row_by ps es c q j)) (keep (λ j. has (mask_at ps es j) q) (up_to i))) ≡ rows_written ps es c q i
unfolding rows_written
rows_kept ps es c q zero = unfold up_to from keep flat in refl
rows_kept ps es c q (suc i) =
    let f : ℕ → List ℕ = λ j. row_bytes (row_by ps es c q j) in
    let t : ℕ → Bool = λ j. has (mask_at ps es j) q in
    kept_snoc f t i ∙ ap (λ (l : List ℕ). l ++ cond (t i) (f i) []) (rows_kept ps es c q i)

-- ---- the image of a spread, with counts that are right for the parts that are there

module _ (n : ℕ) (es : List Entity) (place : Placement) (W : WellPlaced n es place) (c : ℕ → ℕ) (right : (q : ℕ) → q < n → c q ≡ placed_in es place q) where
  pub part-written : (q : ℕ) → q < n → bytes_of_part (get_or (rows_for (spread n es place)) q []) ≡ part_written (spread n es place) es c q
  unfolding bytes_of_part part_written
  part-written q h =
      let ps = spread n es place in
      let on : ℕ → Bool = λ i. has (mask_at ps es i) q in
      let ks = keep on (up_to (length es)) in
      ap₂ {C = List ℕ} (λ (k : ℕ) (l : List ℕ). bytes_of 4 k ++ l) (in_rows ps q ∙ length_by_masks n es place q h)
      (ap (λ (rows : List Row). flat (map row_bytes rows)) (part_rows_by_masks n es place W c right q h)
      ∙ ap flat (map_of_map row_bytes (row_by ps es c q) ks)
      ∙ rows_kept ps es c q (length es))

  parts_kept : (k : ℕ) → k ≤ n → flat (map (λ q. bytes_of_part (get_or (rows_for (spread n es place)) q [])) (up_to k)) ≡ parts_written (spread n es place) es c k
  unfolding parts_written
  parts_kept zero h = unfold up_to from flat in refl
  parts_kept (suc k) h =
      each_snoc (λ q. bytes_of_part (get_or (rows_for (spread n es place)) q [])) k
      ∙ ap₂ {C = List ℕ} (λ (a b : List ℕ). a ++ b) (parts_kept k (omega arith)) (part-written k h)

  -- the whole image
  pub image-written : image_for n es place ≡ (68 ∷ 77 ∷ 80 ∷ 1 ∷ 0 ∷ n ∷ 0 ∷ 0 ∷ []) ++ parts_written (spread n es place) es c n
  unfolding image_for image_of
  image-written =
      let ps = spread n es place in
      ap₂ {C = List ℕ} (λ (k : ℕ) (l : List ℕ). (68 ∷ 77 ∷ 80 ∷ 1 ∷ 0 ∷ k ∷ 0 ∷ 0 ∷ []) ++ l) (rows-count ps ∙ spread-length n es place)
      (ap (λ (S : List (List Row)). flat (map bytes_of_part S)) as_read
      ∙ ap flat (map_of_map bytes_of_part (λ q. get_or (rows_for ps) q []) (up_to n))
      ∙ parts_kept n (omega arith))
    where
      as_read : rows_for (spread n es place) ≡ map (λ q. get_or (rows_for (spread n es place)) q []) (up_to n)
      as_read =
          let S = rows_for (spread n es place) in
          let k : length S ≡ n = rows-count (spread n es place) ∙ spread-length n es place in
          sym (take-length S) ∙ take_read S (length S) [] (omega arith) ∙ ap (λ (z : ℕ). map (λ q. get_or S q []) (up_to z)) k

  -- where row i of part q begins
  pub rows-length : (q i : ℕ) → q < n → i ≤ length es
      → length (rows_written (spread n es place) es c q i) ≡ total (λ j. cond (has (mask_at (spread n es place) es j) q) (row_size (mask_at (spread n es place) es j)) 0) i
  unfolding rows_written total
  rows-length q zero h l = refl
  rows-length q (suc i) h l =
      let ps = spread n es place in
      length-append (rows_written ps es c q i) (cond (has (mask_at ps es i) q) (row_bytes (row_by ps es c q i)) [])
      ∙ ap₂ ◌+◌ (rows-length q i h (omega arith)) (go (has (mask_at ps es i) q) (λ t.
      ap (λ (r : Row). length (row_bytes r)) (sym (row_by_masks n es place W c right q i h l t)) ∙ row_size_lem n es place W q i h l t))
    where
      go : (b : Bool) → (T b → length (row_bytes (row_by (spread n es place) es c q i)) ≡ row_size (mask_at (spread n es place) es i))
          → length (cond b (row_bytes (row_by (spread n es place) es c q i)) []) ≡ cond b (row_size (mask_at (spread n es place) es i)) 0
      go true e = e tt
      go false e = refl

  -- and where part q does
  pub parts_length : (q : ℕ) → q ≤ n → length (parts_written (spread n es place) es c q)
      ≡ total (λ r. 4 + total (λ j. cond (has (mask_at (spread n es place) es j) r) (row_size (mask_at (spread n es place) es j)) 0) (length es)) q
  unfolding parts_written part_written total
  parts_length zero h = refl
  parts_length (suc q) h =
      let ps = spread n es place in
      let k = bytes_of 4 (slot_by ps es q (length es)) in
      let rs = rows_written ps es c q (length es) in
      length-append (parts_written ps es c q) (k ++ rs)
      ∙ ap₂ ◌+◌ (parts_length q (omega arith)) (length-append k rs ∙ ap₂ ◌+◌ (length-bytes 4 (slot_by ps es q (length es))) (rows-length q (length es) h (omega arith)))
