-- The walk by offsets and the walk of the paper, which takes bytes off the front, find the same rows. Assumes nothing.
use Prim.Native.Nat.{ℕ, zero, suc, ◌+◌, ◌-◌, ◌*◌, ◌<◌, ◌≤◌}
use native.Mathlib.Nat.{add-zero, le_refl, lt_of_not-le}
use native.Mathlib.Decide.{dec_le}
use native.Mathlib.Omega.{arith}
use mathlib.Core.Path.{◌≡◌, refl, ap, ap₂, ◌∙◌}
use mathlib.Core.Bool.{true}
use mathlib.Core.Logic.{◌⊎◌, inl, inr}
use mathlib.Core.List.{List, map}
use mathlib.Core.Option.{Option, none, some}
use lib.ListN.{length, drop, length-drop, drop_of_length-le}
use lib.Seq.{drop-cons, drop-drop}
use lib.Dec.{leb}
use borrow.Author.Tests.{le-leb, lt-leb}
use Rattle.laws.specs.Lists.{In, flat, need}
use Rattle.laws.proofs.Members.{in_either}
use Rattle.field.specs.Bytes.{u32_at, u64_at}
use Rattle.field.proofs.Reading.{u32_drop, u64_drop}
use Rattle.paper.specs.Image.{Row, Set, row_length_of, cons_row, cons_part, walked, walk_rows, walk_parts}
use Rattle.index.specs.Index.{row_from}
use Rattle.index.specs.Places.{length_at, rows_end, row_offs, part_end, parts_end, part_offs}
use Rattle.index.proofs.RowFields.{row_long_enough}

-- ---- ends

-- rows take 48 bytes and more each
pub rows_end_room : (k : ℕ) (b : List ℕ) (o : ℕ) → o + 48 * k ≤ rows_end k b o
unfolding rows_end
rows_end_room zero b o = omega arith
rows_end_room (suc k) b o = omega (arith, row_long_enough (u64_at b (o + 8)), rows_end_room k b (o + length_at b o))

-- a part takes 4 bytes and more
pub parts_end_room : (n : ℕ) (b : List ℕ) (o : ℕ) → o ≤ parts_end n b o
unfolding parts_end
parts_end_room zero b o = le_refl o
parts_end_room (suc n) b o = omega (arith, rows_end_room (u32_at b o) b (o + 4), parts_end_room n b (part_end b o))

-- each row ends within the rows
pub rows_within : (k : ℕ) (b : List ℕ) (o i : ℕ) → In i (row_offs k b o) → i + length_at b i ≤ rows_end k b o
unfolding row_offs rows_end
rows_within zero b o i j = absurd j
rows_within (suc k) b o i (inl e) = rw e (omega (arith, rows_end_room k b (o + length_at b o)))
rows_within (suc k) b o i (inr j) = rows_within k b (o + length_at b o) i j

pub parts_within : (n : ℕ) (b : List ℕ) (o i : ℕ) → In i (flat (part_offs n b o)) → i + length_at b i ≤ parts_end n b o
unfolding part_offs parts_end flat
parts_within zero b o i j = absurd j
parts_within (suc n) b o i j = go (in_either i (row_offs (u32_at b o) b (o + 4)) (flat (part_offs n b (part_end b o))) j) (parts_within n b (part_end b o) i)
  where
    go : In i (row_offs (u32_at b o) b (o + 4)) ⊎ In i (flat (part_offs n b (part_end b o))) → (In i (flat (part_offs n b (part_end b o))) → i + length_at b i ≤ parts_end n b (part_end b o))
        → i + length_at b i ≤ parts_end n b (part_end b o)
    go (inl h) rest = omega (arith, rows_within (u32_at b o) b (o + 4) i h, parts_end_room n b (part_end b o))
    go (inr h) rest = rest h

pub length-row_offs : (k : ℕ) (b : List ℕ) (o : ℕ) → length (row_offs k b o) ≡ k
unfolding row_offs
length-row_offs zero b o = refl
length-row_offs (suc k) b o = ap suc (length-row_offs k b (o + length_at b o))

pub length-part_offs : (n : ℕ) (b : List ℕ) (o : ℕ) → length (part_offs n b o) ≡ n
unfolding part_offs
length-part_offs zero b o = refl
length-part_offs (suc n) b o = ap suc (length-part_offs n b (part_end b o))

-- ---- the rows of a part

abbrev Rest : Type 0
Rest = Option (List Row × List ℕ)

-- the rows from o on, and what is left of the bytes
abbrev pub rows_at : ℕ → List ℕ → ℕ → List Row × List ℕ
rows_at k b o = (map (row_from b) (row_offs k b o), drop (rows_end k b o) b)

one-row : (k : ℕ) (b : List ℕ) (o : ℕ)
    → walk_rows (suc k) (drop o b) ≡ need (leb (length_at b o) (length b - o)) (cons_row (row_from b o) (walk_rows k (drop (o + length_at b o) b)))
unfolding walk_rows
one-row k b o =
    ap₂ (λ (m l : ℕ). need (leb (row_length_of m) l) (cons_row (row_from b o) (walk_rows k (drop (row_length_of m) (drop o b))))) (u64_drop b o 8) (length-drop o b)
    ∙ ap (λ (l : List ℕ). need (leb (length_at b o) (length b - o)) (cons_row (row_from b o) (walk_rows k l))) (drop-drop (length_at b o) o b)

pub rows_there : (k : ℕ) (b : List ℕ) (o : ℕ) → rows_end k b o ≤ length b → walk_rows k (drop o b) ≡ some (rows_at k b o)
unfolding walk_rows rows_end row_offs need cons_row
rows_there zero b o h = refl
rows_there (suc k) b o h =
    let t : leb (length_at b o) (length b - o) ≡ true = le-leb (length_at b o) (length b - o) (omega (arith, rows_end_room k b (o + length_at b o))) in
    one-row k b o ∙ rw (t, rows_there k b (o + length_at b o) h)

pub rows_short : (k : ℕ) (b : List ℕ) (o : ℕ) → o ≤ length b → length b < rows_end k b o → walk_rows k (drop o b) ≡ none
unfolding walk_rows rows_end need cons_row
rows_short zero b o l h = absurd (omega arith)
rows_short (suc k) b o l h = one-row k b o ∙ go (dec_le (o + length_at b o) (length b)) (rows_short k b (o + length_at b o))
  where
    go : Dec (o + length_at b o ≤ length b) → (o + length_at b o ≤ length b → length b < rows_end k b (o + length_at b o) → walk_rows k (drop (o + length_at b o) b) ≡ none)
        → need (leb (length_at b o) (length b - o)) (cons_row (row_from b o) (walk_rows k (drop (o + length_at b o) b))) ≡ none
    go (yes y) rest = rw (le-leb (length_at b o) (length b - o) (omega arith), rest y h)
    go (no y) rest = rw (lt-leb (length_at b o) (length b - o) (omega (arith, lt_of_not-le y)))

-- ---- the parts

-- the parts from o on
abbrev pub parts_at : ℕ → List ℕ → ℕ → Set
parts_at n b o = map (map (row_from b)) (part_offs n b o)

one-part : (n : ℕ) (b : List ℕ) (o : ℕ)
    → walk_parts (suc n) (drop o b) ≡ need (leb 4 (length b - o)) (walked (walk_rows (u32_at b o) (drop (o + 4) b)) (walk_parts n))
unfolding walk_parts
one-part n b o =
    ap₂ (λ (l k : ℕ). need (leb 4 l) (walked (walk_rows k (drop 4 (drop o b))) (walk_parts n))) (length-drop o b) (u32_drop b o 0 ∙ ap (u32_at b) (add-zero o))
    ∙ ap (λ (l : List ℕ). need (leb 4 (length b - o)) (walked (walk_rows (u32_at b o) l) (walk_parts n))) (drop-drop 4 o b)

pub parts_there : (n : ℕ) (b : List ℕ) (o : ℕ) → parts_end n b o ≡ length b → walk_parts n (drop o b) ≡ some (parts_at n b o)
unfolding walk_parts parts_end part_offs need walked cons_part
parts_there zero b o h = ap (walk_parts zero) (drop_of_length-le b {i = o} (omega arith))
parts_there (suc n) b o h =
    let past = parts_end_room n b (part_end b o) in
    let room = rows_end_room (u32_at b o) b (o + 4) in
    one-part n b o
    ∙ rw (le-leb 4 (length b - o) (omega (arith, past, room)), rows_there (u32_at b o) b (o + 4) (omega (arith, past)), parts_there n b (part_end b o) h)

pub parts_short : (n : ℕ) (b : List ℕ) (o : ℕ) → o ≤ length b → (parts_end n b o ≡ length b → ⊥) → walk_parts n (drop o b) ≡ none
unfolding walk_parts parts_end need walked cons_part
parts_short zero b o l h = ap (walk_parts zero) (drop-cons b o 0 (omega arith))
parts_short (suc n) b o l h = one-part n b o ∙ go (dec_le (o + 4) (length b)) (dec_le (part_end b o) (length b)) (parts_short n b (part_end b o))
  where
    go : Dec (o + 4 ≤ length b) → Dec (part_end b o ≤ length b)
        → (part_end b o ≤ length b → (parts_end n b (part_end b o) ≡ length b → ⊥) → walk_parts n (drop (part_end b o) b) ≡ none)
        → need (leb 4 (length b - o)) (walked (walk_rows (u32_at b o) (drop (o + 4) b)) (walk_parts n)) ≡ none
    go (no x) y rest = rw (lt-leb 4 (length b - o) (omega (arith, lt_of_not-le x)))
    go (yes x) (no y) rest = rw (le-leb 4 (length b - o) (omega arith), rows_short (u32_at b o) b (o + 4) x (lt_of_not-le y))
    go (yes x) (yes y) rest = rw (le-leb 4 (length b - o) (omega arith), rows_there (u32_at b o) b (o + 4) y, rest y h)
