-- A text read digit by digit: a turn of the loop is one unfolding of what is left to read. Assumes nothing.
use Prim.Native.Nat.{ℕ, ◌+◌, ◌*◌, ◌-◌, ◌≤◌, ◌<◌}
use native.Mathlib.Numerals.{add-one}
use native.Mathlib.Omega.{arith}
use mathlib.Core.Path.{◌≡◌, refl, sym, ap, ap₂, ◌∙◌}
use mathlib.Core.Bool.{Bool, true, false, ◌&&◌, cond}
use mathlib.Core.Logic.{◌⊎◌, ⊎_elim}
use mathlib.Core.List.{List, [], ◌∷◌}
use Rattle.std.specs.Prelude.{None, Some}
use lib.ListN.{length, get_or, drop, drop_of_length-le}
use lib.Seq.{drop-cons}
use lib.Dec.{leb, ltb}
use borrow.Author.Tests.{lt-ltb, le-ltb, le-leb, lt-leb}
use Rattle.laws.proofs.Tests.{and-false}
use Rattle.decimal.specs.Decimal.{goes_on, read_from, number_in}

-- what is left of a text from i on, with the next character apart
pub next : (text : List ℕ) (i : ℕ) → i < length text → drop i text ≡ get_or text i 0 ∷ drop (i + 1) text
next text i h = drop-cons text i 0 h ∙ ap (λ (k : ℕ). get_or text i 0 ∷ drop k text) (sym (add-one i))

pub record Reading (text : List ℕ) (n i : ℕ) : Type 0 where
  pub left : read_from n (drop i text) ≡ number_in text
  pub small : n < 4294967296

pub number_empty : (text : List ℕ) → length text ≡ 0 → None ≡ number_in text
unfolding number_in
number_empty [] h = refl
number_empty (d ∷ ds) h = absurd (omega (arith, h))

pub reading_none : (text : List ℕ) → (length text ≡ 0 → ⊥) → Reading text 0 0
unfolding number_in
reading_none [] h = absurd (h refl)
reading_none (d ∷ ds) h = record { left = refl; small = omega arith }

read_next : (text : List ℕ) (n i : ℕ) → i < length text → read_from n (drop i text) ≡ cond (goes_on n (get_or text i 0)) (read_from (n * 10 + (get_or text i 0 - 48)) (drop (i + 1) text)) None
unfolding read_from
read_next text n i h = ap (read_from n) (next text i h)

-- a character that is a digit, and a number that stays small
pub reading_more : (text : List ℕ) (n i : ℕ) → Reading text n i → i < length text → 48 ≤ get_or text i 0 → get_or text i 0 ≤ 57 → n * 10 + (get_or text i 0 - 48) < 4294967296 → Reading text (n * 10 + (get_or text i 0 - 48)) (i + 1)
reading_more text n i r h low high small =
    let d = get_or text i 0 in
    let v = n * 10 + (d - 48) in
    let on : goes_on n d ≡ true = ap₂ ◌&&◌ (ap₂ ◌&&◌ (le-leb 48 d low) (le-leb d 57 high)) (lt-ltb v 4294967296 small) in
    record {
      left = sym (read_next text n i h ∙ ap (λ (t : Bool). cond t (read_from v (drop (i + 1) text)) None) on) ∙ r.left;
      small = small;
    }

stops : (text : List ℕ) (n i : ℕ) → Reading text n i → i < length text → goes_on n (get_or text i 0) ≡ false → None ≡ number_in text
stops text n i r h off =
    let v = n * 10 + (get_or text i 0 - 48) in
    sym (read_next text n i h ∙ ap (λ (t : Bool). cond t (read_from v (drop (i + 1) text)) None) off) ∙ r.left

pub stops_other : (text : List ℕ) (n i : ℕ) → Reading text n i → i < length text → (get_or text i 0 < 48) ⊎ (57 < get_or text i 0) → None ≡ number_in text
stops_other text n i r h out =
    let d = get_or text i 0 in
    let small = ltb (n * 10 + (d - 48)) 4294967296 in
    stops text n i r h (⊎_elim
    (λ low. ap (λ (t : Bool). t && leb d 57 && small) (lt-leb 48 d low))
    (λ high. ap (λ (t : Bool). t && small) (and-false (leb 48 d) (leb d 57) (lt-leb d 57 high)))
    out)

pub stops_large : (text : List ℕ) (n i : ℕ) → Reading text n i → i < length text → 4294967295 < n * 10 + (get_or text i 0 - 48) → None ≡ number_in text
stops_large text n i r h large =
    let d = get_or text i 0 in
    stops text n i r h (and-false (leb 48 d && leb d 57) (ltb (n * 10 + (d - 48)) 4294967296) (le-ltb (n * 10 + (d - 48)) 4294967296 (omega (arith, large))))

pub reading_all : (text : List ℕ) (n i : ℕ) → Reading text n i → length text ≤ i → Some n ≡ number_in text
unfolding read_from
reading_all text n i r h = sym (ap (read_from n) (drop_of_length-le text h)) ∙ r.left
