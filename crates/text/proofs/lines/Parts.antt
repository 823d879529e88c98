-- A line in parts: its first numbers, its remote copies and the line feed. Assumes nothing.
use Prim.Native.Nat.{ℕ, suc, ◌+◌, ◌≤◌, ◌<◌}
use native.Mathlib.Numerals.{add-one}
use mathlib.Core.Path.{◌≡◌, refl, sym, ap, ◌∙◌}
use mathlib.Core.List.{List, [], ◌∷◌, ◌++◌, map, append_assoc, append-nil}
use lib.ListN.{length, get_or, drop, drop_of_length-le}
use lib.Seq.{drop-cons}
use Rattle.laws.specs.Lists.{flat, zip}
use Rattle.part_set.specs.Masks.{others}
use Rattle.paper.specs.Image.{Row}
use Rattle.decimal.specs.Decimal.{decimal}
use Rattle.paper.specs.Listing.{joined, line, copy_text, row_line}
use Rattle.text.specs.Lines.{spaced, numbers_text, copies_text}
use Rattle.decimal.proofs.Runs.{Splits}

pub byte_first : (v : ℕ) (bs : List ℕ) → Splits (v ∷ bs) (v ∷ []) bs
byte_first v bs = record { is = refl }

-- ---- fields behind spaces

pub spaced_none : spaced [] ≡ []
unfolding spaced flat
spaced_none = refl

pub spaced_next : (f : List ℕ) (fs : List (List ℕ)) → Splits (spaced (f ∷ fs)) (32 ∷ f) (spaced fs)
unfolding spaced flat
spaced_next f fs = record { is = refl }

-- numbers, from one of them on
pub numbers_after : (ns : List ℕ) (i : ℕ) → i < length ns → Splits (spaced (map decimal (drop i ns))) (32 ∷ decimal (get_or ns i 0)) (spaced (map decimal (drop (i + 1) ns)))
numbers_after ns i h = rw (add-one i, drop-cons ns i 0) (spaced_next (decimal (get_or ns i 0)) (map decimal (drop (suc i) ns)))

pub numbers_end : (ns : List ℕ) (i : ℕ) → length ns ≤ i → spaced (map decimal (drop i ns)) ≡ []
numbers_end ns i h = rw (drop_of_length-le ns {i = i} h) spaced_none

spaced-append : (fs gs : List (List ℕ)) → spaced (fs ++ gs) ≡ spaced fs ++ spaced gs
unfolding spaced flat
spaced-append [] gs = refl
spaced-append (f ∷ fs) gs = ap (λ (l : List ℕ). (32 ∷ f) ++ l) (spaced-append fs gs) ∙ sym (append_assoc (32 ∷ f) (spaced fs) (spaced gs))

pub joined-spaced : (f : List ℕ) (fs : List (List ℕ)) → joined (f ∷ fs) ≡ f ++ spaced fs
unfolding joined spaced flat
joined-spaced f [] = sym (append-nil f)
joined-spaced f (g ∷ fs) = ap (λ (l : List ℕ). f ++ (32 ∷ l)) (joined-spaced g fs)

-- ---- the texts of the writers

pub copy_split : (p s : ℕ) → Splits (32 ∷ copy_text (p, s)) (32 ∷ decimal p) (58 ∷ decimal s)
unfolding copy_text
copy_split p s = record { is = refl }

pub numbers_split : (n : ℕ) (ns : List ℕ) → Splits (numbers_text n ns) (decimal n) (spaced (map decimal ns))
unfolding numbers_text
numbers_split n ns = record { is = refl }

-- the first numbers of a row's line
abbrev pub row_numbers : ℕ → ℕ → Row → List ℕ
row_numbers p s r = numbers_text p (s ∷ r.dim ∷ r.number ∷ r.mask ∷ r.owner ∷ [])

pub row_split : (p s : ℕ) (r : Row) → Splits (row_line p s r) (row_numbers p s r) (copies_text r p ++ (10 ∷ []))
unfolding row_line line numbers_text copies_text
row_split p s r =
    let numbers = map decimal (s ∷ r.dim ∷ r.number ∷ r.mask ∷ r.owner ∷ []) in
    let copies = map copy_text (zip (others r.mask p) r.slots) in
    record {
      is =
          ap (λ (l : List ℕ). l ++ (10 ∷ []))
          (joined-spaced (decimal p) (numbers ++ copies) ∙ ap (λ (l : List ℕ). decimal p ++ l) (spaced-append numbers copies)
          ∙ sym (append_assoc (decimal p) (spaced numbers) (spaced copies)))
          ∙ append_assoc (decimal p ++ spaced numbers) (spaced copies) (10 ∷ []);
    }

pub feed_split : (r : Row) (p : ℕ) → Splits (copies_text r p ++ (10 ∷ [])) (copies_text r p) (10 ∷ [])
feed_split r p = record { is = refl }
