-- Each field of the row whose first byte stands at o, as a number read from the image; and how long a row can be. Assumes nothing.
use Prim.Native.Nat.{ℕ, zero, suc, ◌+◌, ◌*◌, ◌^◌, ◌<◌, ◌≤◌}
use native.Mathlib.Nat.{add-zero, not-suc-le-zero}
use native.Mathlib.Omega.{arith}
use mathlib.Core.Path.{◌≡◌, refl, ap, ap₂, ◌∙◌}
use mathlib.Core.List.{List}
use lib.ListN.{get_or, take, drop}
use lib.Seq.{get_or-drop, get_or-take, drop-drop}
use Rattle.field.specs.Bytes.{u8_at, u16_at, u32_at, u64_at, words, longs}
use Rattle.field.proofs.Reading.{u32_drop, u64_drop}
use Rattle.part_set.proofs.Rank.{count_le}
use Rattle.paper.specs.Image.{remotes, row_length_of, row_in}
use Rattle.index.specs.Index.{row_from}

-- ---- a number in the first n bytes

u16_take : (n : ℕ) (b : List ℕ) (i : ℕ) → i + 2 ≤ n → u16_at (take n b) i ≡ u16_at b i
u16_take n b i h = ap₂ (λ (x y : ℕ). x + 2 ^ 8 * y) (get_or-take n b i 0 (omega arith)) (get_or-take n b (i + 1) 0 (omega arith))

pub u32_take : (n : ℕ) (b : List ℕ) (i : ℕ) → i + 4 ≤ n → u32_at (take n b) i ≡ u32_at b i
u32_take n b i h = ap₂ (λ (x y : ℕ). x + 2 ^ 16 * y) (u16_take n b i (omega arith)) (u16_take n b (i + 2) (omega arith))

pub u64_take : (n : ℕ) (b : List ℕ) (i : ℕ) → i + 8 ≤ n → u64_at (take n b) i ≡ u64_at b i
u64_take n b i h = ap₂ (λ (x y : ℕ). x + 2 ^ 32 * y) (u32_take n b i (omega arith)) (u32_take n b (i + 4) (omega arith))

-- ---- numbers one after the other

pub get_or_words : (k : ℕ) (b : List ℕ) (i : ℕ) → i < k → get_or (words k b) i 0 ≡ u32_at b (4 * i)
unfolding words
get_or_words zero b i h = absurd (not-suc-le-zero h)
get_or_words (suc k) b zero h = refl
get_or_words (suc k) b (suc i) h =
    let e : 4 + 4 * i ≡ 4 * suc i = omega arith in
    get_or_words k (drop 4 b) i (omega arith) ∙ u32_drop b 4 (4 * i) ∙ ap (u32_at b) e

pub get_or_longs : (k : ℕ) (b : List ℕ) (i : ℕ) → i < k → get_or (longs k b) i 0 ≡ u64_at b (8 * i)
unfolding longs
get_or_longs zero b i h = absurd (not-suc-le-zero h)
get_or_longs (suc k) b zero h = refl
get_or_longs (suc k) b (suc i) h =
    let e : 8 + 8 * i ≡ 8 * suc i = omega arith in
    get_or_longs k (drop 8 b) i (omega arith) ∙ u64_drop b 8 (8 * i) ∙ ap (u64_at b) e

-- ---- the fields

module _ (b : List ℕ) (o : ℕ) where
  pub row_number : (row_from b o).number ≡ u32_at b o
  unfolding row_in
  row_number = u32_drop b o 0 ∙ ap (u32_at b) (add-zero o)

  pub row_dim : (row_from b o).dim ≡ u8_at b (o + 4)
  unfolding row_in
  row_dim = get_or-drop o b 4 0

  pub row_owner : (row_from b o).owner ≡ u8_at b (o + 5)
  unfolding row_in
  row_owner = get_or-drop o b 5 0

  pub row_kind : (row_from b o).kind ≡ u8_at b (o + 6)
  unfolding row_in
  row_kind = get_or-drop o b 6 0

  pub row_pad : (row_from b o).pad ≡ u8_at b (o + 7)
  unfolding row_in
  row_pad = get_or-drop o b 7 0

  pub row_mask : (row_from b o).mask ≡ u64_at b (o + 8)
  unfolding row_in
  row_mask = u64_drop b o 8

  pub row_value : (row_from b o).value ≡ u64_at b (o + 16)
  unfolding row_in
  row_value = u64_drop b o 16

  pub row_body : (row_from b o).body ≡ take 24 (drop (o + 24) b)
  unfolding row_in
  row_body = ap (take 24) (drop-drop 24 o b)

  pub row-slots : (row_from b o).slots ≡ words (remotes (row_from b o).mask) (drop (o + 48) b)
  unfolding row_in
  row-slots = ap (words (remotes (u64_at (drop o b) 8))) (drop-drop 48 o b)

  -- byte i of the body
  pub row_byte : (i : ℕ) → i < 24 → get_or (row_from b o).body i 0 ≡ u8_at b (o + 24 + i)
  row_byte i h = ap (λ (l : List ℕ). get_or l i 0) row_body ∙ get_or-take 24 (drop (o + 24) b) i 0 h ∙ get_or-drop (o + 24) b i 0

  -- word i of the body, of which there are 6 or fewer
  pub row_word : (k i : ℕ) → i < k → k ≤ 6 → get_or (words k (row_from b o).body) i 0 ≡ u32_at b (o + 24 + 4 * i)
  row_word k i h few =
      get_or_words k (row_from b o).body i h ∙ ap (λ (l : List ℕ). u32_at l (4 * i)) row_body
      ∙ u32_take 24 (drop (o + 24) b) (4 * i) (omega arith) ∙ u32_drop b (o + 24) (4 * i)

  -- long i of the body, of which there are 3 or fewer
  pub row_long : (k i : ℕ) → i < k → k ≤ 3 → get_or (longs k (row_from b o).body) i 0 ≡ u64_at b (o + 24 + 8 * i)
  row_long k i h few =
      get_or_longs k (row_from b o).body i h ∙ ap (λ (l : List ℕ). u64_at l (8 * i)) row_body
      ∙ u64_take 24 (drop (o + 24) b) (8 * i) (omega arith) ∙ u64_drop b (o + 24) (8 * i)

  -- remote slot i
  pub row_slot : (i : ℕ) → i < remotes (row_from b o).mask → get_or (row_from b o).slots i 0 ≡ u32_at b (o + 48 + 4 * i)
  row_slot i h =
      ap (λ (l : List ℕ). get_or l i 0) row-slots ∙ get_or_words (remotes (row_from b o).mask) (drop (o + 48) b) i h
      ∙ u32_drop b (o + 48) (4 * i)

-- ---- how long a row is

pub remotes_le : (m : ℕ) → remotes m ≤ 63
unfolding remotes
remotes_le m = omega (arith, count_le m)

pub row-length : (m : ℕ) → row_length_of m ≡ 48 + 4 * remotes m
unfolding row_length_of
row-length m = refl

pub row_long_enough : (m : ℕ) → 48 ≤ row_length_of m
unfolding row_length_of
row_long_enough m = omega arith

pub row_not_longer : (m : ℕ) → row_length_of m ≤ 300
unfolding row_length_of
row_not_longer m = omega (arith, remotes_le m)
