-- Two rows compared by the numbers that are read at their offsets. Assumes nothing.
use Prim.Native.Nat.{ℕ, ◌+◌, ◌*◌, ◌^◌, ◌<◌}
use native.Mathlib.Nat.{le_refl}
use native.Mathlib.Omega.{arith}
use mathlib.Core.Path.{◌≡◌, refl, sym, ap, ap₂, ◌∙◌, subst}
use mathlib.Core.Bool.{Bool, true, false, ◌&&◌}
use mathlib.Core.List.{List, [], ◌∷◌}
use lib.ListN.{get_or}
use lib.Dec.{T, eqb, eqb→eq}
use lib.Pow.{are_bytes}
use lib.Pointwise.{pointwise}
use borrow.Author.Tests.{ne_eqb, eq-eqb as eqb_of}
use Rattle.laws.specs.Lists.{same}
use Rattle.laws.proofs.Tests.{true_T}
use Rattle.field.specs.Bytes.{u8_at, u32_at, u64_at, longs}
use Rattle.field.proofs.Reading.{byte_lt}
use Rattle.paper.specs.Sound.{name_of_row}
use Rattle.index.specs.Index.{row_from}
use Rattle.index.proofs.RowFields.{row_number, row_owner, row_kind, row_mask, row_value, row_long}
use Rattle.rows.specs.Values.{ValueStands, RowValueStands}
use Rattle.copies.specs.Copies.{are_same_fields, NameCompared, face_key}

-- the name's lower half is the number
number_small : (b : List ℕ) (o : ℕ) → T (are_bytes b) → (row_from b o).number < 2 ^ 32
number_small b o y = omega (arith, row_number b o, byte_lt b o y, byte_lt b (o + 1) y, byte_lt b (o + 2) y, byte_lt b (o + 2 + 1) y)

pub names_compared : (b : List ℕ) (o o' : ℕ) {k k' : ℕ} → T (are_bytes b) → k ≡ name_of_row (row_from b o) → k' ≡ name_of_row (row_from b o')
    → NameCompared (row_from b o) (row_from b o') (eqb k k')
names_compared b o o' {k} {k'} y e e' = record {
  is = ap₂ eqb e e';
  dims = λ t. let same-name = eqb→eq k k' (true_T (eqb k k') t) in omega (arith, same-name, e, e', number_small b o y, number_small b o' y);
}

-- what is read at o is the kind and the value of the row there
pub value_read : (b : List ℕ) (o : ℕ) {k v : ℕ} → k ≡ u8_at b (o + 6) → v ≡ u64_at b (o + 16) → RowValueStands (row_from b o) → ValueStands k v
value_read b o {k} {v} ek ev stands =
    let kind = row_kind b o ∙ sym ek in
    let value = row_value b o ∙ sym ev in
    subst (λ (x : ℕ). ValueStands x v) kind (subst (λ (y : ℕ). ValueStands (row_from b o).kind y) value stands)

module _ (b : List ℕ) (o o' : ℕ) where
  pub fields_compared : {k k' v v' m m' w w' : ℕ} {value : Bool} → value ≡ (eqb k k' && eqb v v') → k ≡ u8_at b (o + 6) → k' ≡ u8_at b (o' + 6)
      → v ≡ u64_at b (o + 16) → v' ≡ u64_at b (o' + 16) → m ≡ u64_at b (o + 8) → m' ≡ u64_at b (o' + 8) → w ≡ u8_at b (o + 5) → w' ≡ u8_at b (o' + 5)
      → (value && eqb m m' && eqb w w') ≡ are_same_fields (row_from b o) (row_from b o')
  unfolding are_same_fields
  fields_compared same-value ek ek' ev ev' em em' ew ew' =
      ap₂ ◌&&◌ (ap₂ ◌&&◌ (same-value ∙ ap₂ ◌&&◌
      (ap₂ eqb (ek ∙ sym (row_kind b o)) (ek' ∙ sym (row_kind b o'))) (ap₂ eqb (ev ∙ sym (row_value b o)) (ev' ∙ sym (row_value b o'))))
      (ap₂ eqb (em ∙ sym (row_mask b o)) (em' ∙ sym (row_mask b o')))) (ap₂ eqb (ew ∙ sym (row_owner b o)) (ew' ∙ sym (row_owner b o')))

-- coordinate i of the vertex at o
coordinate : (b : List ℕ) (o i k : ℕ) → i < 3 → o + 24 + 8 * i ≡ k → u64_at b k ≡ get_or (longs 3 (row_from b o).body) i 0
coordinate b o i k h e = ap (u64_at b) (sym e) ∙ sym (row_long b o 3 i h (le_refl 3))

pub pointwise_same : (xs ys : List ℕ) → pointwise eqb xs ys ≡ same xs ys
unfolding same
pointwise_same [] [] = refl
pointwise_same [] (y ∷ ys) = refl
pointwise_same (x ∷ xs) [] = refl
pointwise_same (x ∷ xs) (y ∷ ys) = ap (λ (t : Bool). eqb x y && t) (pointwise_same xs ys)

pub point_read : (b : List ℕ) (o : ℕ) {x y z : ℕ} → x ≡ u64_at b (o + 24) → y ≡ u64_at b (o + 32) → z ≡ u64_at b (o + 40) → x ∷ y ∷ z ∷ [] ≡ longs 3 (row_from b o).body
unfolding longs
point_read b o ex ey ez = λ i.
    (ex ∙ coordinate b o 0 (o + 24) (omega arith) (omega arith)) i
    ∷ (ey ∙ coordinate b o 1 (o + 32) (omega arith) (omega arith)) i
    ∷ (ez ∙ coordinate b o 2 (o + 40) (omega arith) (omega arith)) i
    ∷ []

-- slot i of two bodies, by the keys of the rows that are named
module _ (b keys : List ℕ) (first o first' o' i : ℕ) {w w' : ℕ} (e : w ≡ u32_at b (o + 24 + 4 * i)) (e' : w' ≡ u32_at b (o' + 24 + 4 * i)) where
  key_read : get_or keys (first + w) 0 ≡ face_key b keys first o i
  key_read = ap (λ (f : ℕ). get_or keys (first + f) 0) e

  key_read' : get_or keys (first' + w') 0 ≡ face_key b keys first' o' i
  key_read' = ap (λ (f : ℕ). get_or keys (first' + f) 0) e'

  pub faces_match : get_or keys (first + w) 0 ≡ get_or keys (first' + w') 0 → eqb (face_key b keys first o i) (face_key b keys first' o' i) ≡ true
  faces_match h = eqb_of (face_key b keys first o i) (face_key b keys first' o' i) (sym key_read ∙ h ∙ key_read')

  pub faces_differ : (get_or keys (first + w) 0 ≡ get_or keys (first' + w') 0 → ⊥) → eqb (face_key b keys first o i) (face_key b keys first' o' i) ≡ false
  faces_differ h = ne_eqb (face_key b keys first o i) (face_key b keys first' o' i) (λ z. h (key_read ∙ z ∙ sym key_read'))
