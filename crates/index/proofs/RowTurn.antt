-- The length and the name of a row, and a turn of the loop of `walk_rows`, on plain values. Assumes nothing.
use Prim.Native.Nat.{ℕ, suc, ◌+◌, ◌-◌, ◌*◌, ◌≤◌, ◌<◌}
use native.Mathlib.Numerals.{add-one}
use native.Mathlib.Omega.{arith}
use mathlib.Core.Path.{◌≡◌, sym, ap₂, ◌∙◌}
use mathlib.Core.List.{List, map}
use lib.ListN.{length, set, length-set}
use lib.Seq.{sets}
use Rattle.std.specs.Prelude.{Some, None}
use borrow.Author.Tests.{le-leb, lt-leb}
use Rattle.field.specs.Bytes.{u8_at, u32_at, u64_at}
use Rattle.part_set.specs.Masks.{count}
use Rattle.paper.specs.Image.{remotes, row_length_of}
use Rattle.paper.specs.Sound.{max_image, name_of_row}
use Rattle.index.specs.Index.{row_from}
use Rattle.index.specs.Places.{length_at, name_from, rows_end, row_offs}
use Rattle.index.specs.Walk.{RowsWalked}
use Rattle.index.proofs.RowFields.{row_dim, row_number, row_long_enough, row_not_longer}
use Rattle.index.proofs.Bridge.{rows_end_room}

-- ---- one row

pub short_row : (m c : ℕ) → c ≡ count m → c < 2 → 48 ≡ row_length_of m
unfolding row_length_of remotes
short_row m c e h = omega arith

pub long_row : (m c : ℕ) → c ≡ count m → 2 ≤ c → 44 + 4 * c ≡ row_length_of m
unfolding row_length_of remotes
long_row m c e h = omega arith

pub name_is : (b : List ℕ) (o d k : ℕ) → d ≡ u8_at b (o + 4) → k ≡ u32_at b o → d * 4294967296 + k ≡ name_of_row (row_from b o)
name_is b o d k e f = ap₂ (λ (x y : ℕ). x * 4294967296 + y) (e ∙ sym (row_dim b o)) (f ∙ sym (row_number b o))

-- ---- a turn

-- what is left to do from here gives what was to be done from the start
pub record RowsInv (b : List ℕ) (r count o : ℕ) (offs₀ keys₀ offs keys : List ℕ) (left to i : ℕ) : Type 0 where
  pub scaled : 48 * i ≤ to
  pub small : to ≤ max_image + 300
  pub same_offs : length offs ≡ length offs₀
  pub same_keys : length keys ≡ length keys₀
  pub ends : rows_end left b to ≡ rows_end count b o
  pub fills : sets offs i (row_offs left b to) ≡ sets offs₀ r (row_offs count b o)
  pub names : sets keys i (map (name_from b) (row_offs left b to)) ≡ sets keys₀ r (map (name_from b) (row_offs count b o))

module _ {b : List ℕ} {r count o : ℕ} {offs₀ keys₀ : List ℕ} where
  one_less : (offs keys : List ℕ) (left to i n k : ℕ) → RowsInv b r count o offs₀ keys₀ offs keys (suc left) to i → to ≤ max_image
      → n ≡ length_at b to → k ≡ name_of_row (row_from b to) → RowsInv b r count o offs₀ keys₀ (set offs i to) (set keys i k) left (to + n) (i + 1)
  unfolding rows_end row_offs name_from
  one_less offs keys left to i n k v p e f = record {
    scaled = omega (arith, v.scaled, row_long_enough (u64_at b (to + 8)));
    small = omega (arith, row_not_longer (u64_at b (to + 8)));
    same_offs = length-set offs i to ∙ v.same_offs;
    same_keys = length-set keys i k ∙ v.same_keys;
    ends = rw e v.ends;
    fills = rw (add-one i, e) v.fills;
    names = rw (add-one i, e, f) v.names;
  }

  -- row i is taken, and all the rows end at row `end`
  pub rows_step : (offs keys : List ℕ) (end to i n k : ℕ) → RowsInv b r count o offs₀ keys₀ offs keys (end - i) to i → i < end → to ≤ max_image
      → n ≡ length_at b to → k ≡ name_of_row (row_from b to) → RowsInv b r count o offs₀ keys₀ (set offs i to) (set keys i k) (end - (i + 1)) (to + n) (i + 1)
  rows_step offs keys end to i n k v h p e f =
      let s : end - i ≡ suc (end - (i + 1)) = omega arith in
      one_less offs keys (end - (i + 1)) to i n k (rw s at v) p e f

  module _ (offs keys : List ℕ) (left to i : ℕ) (v : RowsInv b r count o offs₀ keys₀ offs keys left to i) where
    -- a row, or the end, that is past the image
    pub rows_over : (e : ℕ) → e ≤ rows_end left b to → length b < e → RowsWalked b r count o offs₀ keys₀ offs keys None
    rows_over e le h =
        let g : length b < rows_end count b o = omega (arith, v.ends) in
        record { answer = simp (lt-leb _ _ g); offs_filled = λ k. absurd (omega arith); keys_filled = λ k. absurd (omega arith) }

  -- 48 bytes are not there, and a row is left
  pub rows_cut : (offs keys : List ℕ) (left to i : ℕ) → RowsInv b r count o offs₀ keys₀ offs keys left to i → 0 < left → length b < to + 48
      → RowsWalked b r count o offs₀ keys₀ offs keys None
  rows_cut offs keys left to i v p h = rows_over offs keys left to i v (to + 48) (omega (arith, rows_end_room left b to)) h

  pub rows_past : (offs keys : List ℕ) (left to i : ℕ) → RowsInv b r count o offs₀ keys₀ offs keys left to i → length b < to
      → RowsWalked b r count o offs₀ keys₀ offs keys None
  rows_past offs keys left to i v h = rows_over offs keys left to i v to (omega (arith, rows_end_room left b to)) h

  pub rows_done : (offs keys : List ℕ) (left to i : ℕ) → RowsInv b r count o offs₀ keys₀ offs keys left to i → left ≡ 0 → to ≤ length b
      → RowsWalked b r count o offs₀ keys₀ offs keys (Some to)
  unfolding rows_end row_offs
  rows_done offs keys left to i v z g =
      let w : RowsInv b r count o offs₀ keys₀ offs keys 0 to i = rw z at v in
      record {
        answer = rw (← w.ends) (simp (le-leb to (length b) g));
        offs_filled = λ k. w.fills;
        keys_filled = λ k. w.names;
      }
