-- A row, the rows of a part and a set are read back from their bytes.
-- Assumes nothing.
use Prim.Native.Nat.{ℕ, suc, ◌^◌, ◌<◌, suc-le-suc}
use native.Mathlib.Nat.{zero-lt-suc}
use native.Mathlib.Omega.{arith}
use mathlib.Core.Path.{◌≡◌, refl, sym, ap, ap₂, ◌∙◌}
use mathlib.Core.Bool.{Bool, true, false}
use mathlib.Core.List.{List, [], ◌∷◌, ◌++◌, map, append_assoc}
use mathlib.Core.Option.{Option, some}
use lib.ListN.{length, get_or, take, drop, length-append}
use lib.Seq.{take_at, drop_at, drop-drop}
use lib.Dec.{T, ltb, leb, le→leb}
use Rattle.laws.specs.Lists.{flat, every, need}
use Rattle.field.specs.Bytes.{u8_at, u32_at, u64_at, words, bytes_of}
use Rattle.paper.specs.Image.{Row, no_row, remotes, row_length_of, row_in, cons_row, walk_rows, row_bytes}
use Rattle.field.proofs.Numbers.{words_back, length-written}

-- the row's numbers have the widths of their fields
pub record RowFits (r : Row) : Type 0 where
  pub number : r.number < 2 ^ 32
  pub mask : r.mask < 2 ^ 64
  pub value : r.value < 2 ^ 64
  pub body : length r.body ≡ 24
  pub slots : length r.slots ≡ remotes r.mask
  pub each : T (every (λ w. ltb w (2 ^ 32)) r.slots)

-- ---- one row, field by field

number-back : (r : Row) (rest : List ℕ) → RowFits r → u32_at (row_bytes r ++ rest) 0 ≡ r.number
unfolding row_bytes bytes_of
number-back r rest f = omega (arith, f.number)

mask_back : (r : Row) (rest : List ℕ) → RowFits r → u64_at (row_bytes r ++ rest) 8 ≡ r.mask
unfolding row_bytes bytes_of
mask_back r rest f = omega (arith, f.mask)

value_back : (r : Row) (rest : List ℕ) → RowFits r → u64_at (row_bytes r ++ rest) 16 ≡ r.value
unfolding row_bytes bytes_of
value_back r rest f = omega (arith, f.value)

-- behind the first 24 bytes
behind : (r : Row) (rest : List ℕ) → drop 24 (row_bytes r ++ rest) ≡ r.body ++ (flat (map (bytes_of 4) r.slots) ++ rest)
unfolding row_bytes bytes_of
behind r rest = append_assoc r.body (flat (map (bytes_of 4) r.slots)) rest

body_back : (r : Row) (rest : List ℕ) → RowFits r → take 24 (drop 24 (row_bytes r ++ rest)) ≡ r.body
body_back r rest f = ap (take 24) (behind r rest) ∙ take_at r.body (flat (map (bytes_of 4) r.slots) ++ rest) 24 f.body

slots_behind : (r : Row) (rest : List ℕ) → RowFits r → drop 48 (row_bytes r ++ rest) ≡ flat (map (bytes_of 4) r.slots) ++ rest
slots_behind r rest f =
    sym (drop-drop 24 24 (row_bytes r ++ rest)) ∙ ap (drop 24) (behind r rest) ∙ drop_at r.body (flat (map (bytes_of 4) r.slots) ++ rest) 24 f.body

slots-back : (r : Row) (rest : List ℕ) → RowFits r → words (remotes (u64_at (row_bytes r ++ rest) 8)) (drop 48 (row_bytes r ++ rest)) ≡ r.slots
slots-back r rest f =
    ap₂ (λ (k : ℕ) (b : List ℕ). words k b) (ap remotes (mask_back r rest f) ∙ sym f.slots) (slots_behind r rest f)
    ∙ words_back r.slots rest f.each

-- dimension, owner, kind and the zero byte
four-back : (r : Row) (rest : List ℕ) → let b = row_bytes r ++ rest in
    ◌≡◌ {A = ℕ × ℕ × ℕ × ℕ} (u8_at b 4, u8_at b 5, u8_at b 6, u8_at b 7) (r.dim, r.owner, r.kind, r.pad)
unfolding row_bytes bytes_of
four-back r rest = refl

pub row_back : (r : Row) (rest : List ℕ) → RowFits r → row_in (row_bytes r ++ rest) ≡ r
unfolding row_in
row_back r rest f = λ i.
    record {
      number = number-back r rest f i;
      dim = (four-back r rest i).0;
      owner = (four-back r rest i).1;
      kind = (four-back r rest i).2;
      pad = (four-back r rest i).3;
      mask = mask_back r rest f i;
      value = value_back r rest f i;
      body = body_back r rest f i;
      slots = slots-back r rest f i;
    }

pub length-row : (r : Row) → RowFits r → length (row_bytes r) ≡ row_length_of r.mask
unfolding row_bytes row_length_of bytes_of
length-row r f = omega (arith, length-append r.body (flat (map (bytes_of 4) r.slots)), length-written r.slots, f.body, f.slots)

-- ---- the rows of a part

pub need_true : {A : Type 0} (t : Bool) (x : Option A) → T t → need t x ≡ x
unfolding need
need_true true x h = refl
need_true false x h = absurd h

walk_one : (k : ℕ) (r : Row) (more : List ℕ) (t : List Row × List ℕ) → RowFits r → walk_rows k more ≡ some t
    → walk_rows (suc k) (row_bytes r ++ more) ≡ some (r ∷ t.0, t.1)
unfolding walk_rows cons_row
walk_one k r more t f e =
    let b = row_bytes r ++ more in
    let n = row_length_of (u64_at b 8) in
    let long : n ≡ length (row_bytes r) = ap row_length_of (mask_back r more f) ∙ sym (length-row r f) in
    need_true (leb n (length b)) (cons_row (row_in b) (walk_rows k (drop n b))) (le→leb n (length b) (omega (arith, long, length-append (row_bytes r) more)))
    ∙ ap₂ cons_row (row_back r more f) (ap (walk_rows k) (drop_at (row_bytes r) more n (sym long)) ∙ e)

pub rows_back : (rows : List Row) (rest : List ℕ) → ((i : ℕ) → i < length rows → RowFits (get_or rows i no_row))
    → walk_rows (length rows) (flat (map row_bytes rows) ++ rest) ≡ some (rows, rest)
unfolding flat walk_rows
rows_back [] rest f = refl
rows_back (r ∷ rows) rest f =
    ap (walk_rows (suc (length rows))) (append_assoc (row_bytes r) (flat (map row_bytes rows)) rest)
    ∙ walk_one (length rows) r (flat (map row_bytes rows) ++ rest) (rows, rest) (f 0 (zero-lt-suc (length rows)))
    (rows_back rows rest (λ i h. f (suc i) (suc-le-suc h)))
