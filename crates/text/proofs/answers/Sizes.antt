-- How long the text can be: at most four bytes for each byte of a sound image, so at most 262,144 for an image that is listed.
-- Assumes nothing.
use Prim.Native.Nat.{ℕ, suc, ◌+◌, ◌*◌, ◌^◌, ◌≤◌, ◌<◌}
use native.Mathlib.Omega.{arith}
use mathlib.Core.Path.{◌≡◌, refl, ap, ◌∙◌, subst}
use mathlib.Core.Bool.{Bool, true, false, not, cond}
use mathlib.Core.Logic.{inl, inr}
use mathlib.Core.List.{List, [], ◌∷◌, map}
use lib.ListN.{length, get_or, length-append}
use lib.Dec.{T, ltb, ltb→lt, nltb→le, lit<, lit≤}
use lib.Pow.{are_bytes}
use Rattle.laws.specs.Lists.{In, flat, zip, from, up_to, every}
use Rattle.laws.proofs.Tests.{and_l, and_r}
use Rattle.field.specs.Bytes.{bytes_of}
use Rattle.part_set.specs.Masks.{others}
use Rattle.part_set.proofs.MaskParts.{others_in}
use Rattle.paper.specs.Outcome.{Outcome, Place, refused, accepted}
use Rattle.paper.specs.Image.{Row, Set, no_row, row_length_of, row_bytes, bytes_of_part, image_of, row_at}
use Rattle.paper.specs.Sound.{sound_of}
use Rattle.decimal.specs.Decimal.{decimal}
use Rattle.paper.specs.Listing.{copy_text, row_line, part_lines, set_line_list, head_line, too_long, answer_text, max_listing, listing_of}
use Rattle.paper.proofs.RowBack.{RowFits, length-row}
use Rattle.demands.proofs.Sound.Facts.{Sound, sound_inv}
use Rattle.text.specs.Lines.{spaced, copies_text, refusal_line}
use Rattle.decimal.proofs.Runs.{Splits}
use Rattle.decimal.proofs.Decimals.{length-decimal, length_below}
use Rattle.text.proofs.lines.Parts.{spaced_none, spaced_next, numbers_split, copy_split, row_split}
use Rattle.text.proofs.answers.Words.{fields_next, fields_none, head_split, refusal_split, sound_split}

split_length : {text xs ys : List ℕ} → Splits text xs ys → length text ≡ length xs + length ys
split_length {text} {xs} {ys} s = ap length s.is ∙ length-append xs ys

-- ---- fields and copies

-- numbers behind spaces
numbers-length : (ns : List ℕ) → length (spaced (map decimal ns)) ≤ 21 * length ns
numbers-length [] = omega (arith, ap length spaced_none)
numbers-length (n ∷ ns) = omega (arith, split_length (spaced_next (decimal n) (map decimal ns)), length-decimal n, numbers-length ns)

copies_length : (qs ts : List ℕ) → ((q : ℕ) → In q qs → q < 64) → T (every (λ t. ltb t (2 ^ 32)) ts) → length (spaced (map copy_text (zip qs ts))) ≤ 14 * length ts
unfolding zip every
copies_length [] ts below each = omega (arith, ap length spaced_none)
copies_length (q ∷ qs) [] below each = omega (arith, ap length spaced_none)
copies_length (q ∷ qs) (t ∷ ts) below each =
    let more = copies_length qs ts (λ x i. below x (inr i)) (and_r (ltb t (2 ^ 32)) (every (λ t. ltb t (2 ^ 32)) ts) each) in
    let small = ltb→lt t (2 ^ 32) (and_l (ltb t (2 ^ 32)) (every (λ t. ltb t (2 ^ 32)) ts) each) in
    omega (arith, more, split_length (spaced_next (copy_text (q, t)) (map copy_text (zip qs ts))), split_length (copy_split q t), length_below 2 q (lit< tt) (omega (arith, below q (inl refl))), length_below 10 t (lit< tt) (omega (arith, small)))

row-length : (p s : ℕ) (r : Row) → RowFits r → length (row_line p s r) ≤ 4 * length (row_bytes r)
unfolding copies_text row_length_of
row-length p s r fits =
    let ns = s ∷ r.dim ∷ r.number ∷ r.mask ∷ r.owner ∷ [] in
    omega (arith, split_length (row_split p s r), split_length (numbers_split p ns), length-decimal p, numbers-length ns, length-append (copies_text r p) (10 ∷ []), copies_length (others r.mask p) r.slots (λ q i. (others_in r.mask p q i).0) fits.each, fits.slots, length-row r fits)

-- ---- a text for each element

texts_length : {A : Type 0} (f : ℕ → List ℕ) (g : A → List ℕ) (d : A) (i : ℕ) (xs : List A) → ((j : ℕ) → j < length xs → length (f (i + j)) ≤ 4 * length (g (get_or xs j d)))
    → length (flat (map f (from i (length xs)))) ≤ 4 * length (flat (map g xs))
unfolding flat from
texts_length f g d i [] each = omega arith
texts_length f g d i (x ∷ xs) each =
    let first : length (f i) ≤ 4 * length (g x) = let e : i + 0 ≡ i = omega arith in subst (λ (k : ℕ). length (f k) ≤ 4 * length (g x)) e (each 0 (omega arith)) in
    let step : (j : ℕ) → j < length xs → length (f (suc i + j)) ≤ 4 * length (g (get_or xs j d)) = λ j h. let e : i + suc j ≡ suc i + j = omega arith in subst (λ (k : ℕ). length (f k) ≤ 4 * length (g (get_or xs j d))) e (each (suc j) (omega arith)) in
    omega (arith, first, texts_length f g d (suc i) xs step, length-append (f i) (flat (map f (from (suc i) (length xs)))), length-append (g x) (flat (map g xs)))

texts_up_to : {A : Type 0} (f : ℕ → List ℕ) (g : A → List ℕ) (d : A) (xs : List A) → ((j : ℕ) → j < length xs → length (f j) ≤ 4 * length (g (get_or xs j d)))
    → length (flat (map f (up_to (length xs)))) ≤ 4 * length (flat (map g xs))
unfolding up_to
texts_up_to f g d xs each = texts_length f g d 0 xs (λ j h. let e : j ≡ 0 + j = omega arith in subst (λ (k : ℕ). length (f k) ≤ 4 * length (g (get_or xs j d))) e (each j h))

-- ---- parts and sets

part_length : (p : ℕ) (rows : List Row) → ((s : ℕ) → s < length rows → RowFits (get_or rows s no_row)) → length (part_lines p rows) ≤ 4 * length (bytes_of_part rows)
unfolding part_lines bytes_of_part
part_length p rows fits =
    omega (arith, texts_up_to (λ s. row_line p s (get_or rows s no_row)) row_bytes no_row rows (λ s h. row-length p s (get_or rows s no_row) (fits s h)), length-append (bytes_of 4 (length rows)) (flat (map row_bytes rows)))

set-length : (S : Set) → ((p s : ℕ) → s < length (get_or S p []) → RowFits (row_at S p s)) → length (set_line_list S) ≤ 4 * length (flat (map bytes_of_part S))
unfolding set_line_list row_at
set-length S fits = texts_up_to (λ p. part_lines p (get_or S p [])) bytes_of_part [] S (λ p h. part_length p (get_or S p []) (fits p))

head_length : (n : ℕ) → n ≤ 64 → length (head_line n) ≤ 32
head_length n few =
    omega (arith, split_length (head_split n), split_length (fields_next (decimal 1) (decimal n ∷ [])), split_length (fields_next (decimal n) []), ap length fields_none, length-decimal 1, length_below 2 n (lit< tt) (omega (arith, few)))

-- ---- each answer

sound_length : (S : Set) → Sound S → length (answer_text (accepted S)) ≤ 4 * length (image_of S)
unfolding image_of
sound_length S sound =
    omega (arith, split_length (sound_split S), head_length (length S) sound.copied.few_parts, set-length S (λ p s h. (sound.copied.wide p s h).row), length-append (68 ∷ 77 ∷ 80 ∷ 1 ∷ 0 ∷ length S ∷ 0 ∷ 0 ∷ []) (flat (map bytes_of_part S)))

pub refusal-length : (k major minor : ℕ) → length (refusal_line k major minor) ≤ 71
refusal-length k major minor =
    omega (arith, split_length (refusal_split k major minor), split_length (fields_next (decimal k) (decimal major ∷ decimal minor ∷ [])), split_length (fields_next (decimal major) (decimal minor ∷ [])), split_length (fields_next (decimal minor) []), ap length fields_none, length-decimal k, length-decimal major, length-decimal minor)

pub refusal-text : (k : ℕ) (p : Place) → answer_text (refused k p) ≡ refusal_line k p.major p.minor
unfolding answer_text refusal_line
refusal-text k p = refl

pub answer-length : (b : List ℕ) → T (are_bytes b) → length b ≤ 65536 → length (answer_text (sound_of b)) ≤ 262144
answer-length b bytes small = go (sound_of b) refl
  where
    go : (o : Outcome Set) → sound_of b ≡ o → length (answer_text o) ≤ 262144
    go (refused k p) e = omega (arith, ap length (refusal-text k p), refusal-length k p.major p.minor)
    go (accepted S) e =
        let known = sound_inv b S bytes e in
        omega (arith, small, sound_length S known.0, ap length known.1)

-- the text for any input
pub listing_length : (b : List ℕ) → T (are_bytes b) → length (listing_of b) ≤ 262144
unfolding listing_of
listing_length b bytes = go (ltb max_listing (length b)) (nltb→le max_listing (length b))
  where
    go : (t : Bool) → (T (not t) → length b ≤ max_listing) → length (cond t too_long (answer_text (sound_of b))) ≤ 262144
    go true small = lit≤ tt
    go false small = answer-length b bytes (small tt)
