-- A row and the rows of a part: what a walk over an image has read is written to the same bytes. Assumes nothing.
use Prim.Native.Nat.{ℕ, zero, suc, ◌+◌, ◌*◌, ◌≤◌}
use native.Mathlib.Omega.{arith}
use mathlib.Core.Path.{◌≡◌, refl, sym, ap, ap₂, ◌∙◌}
use mathlib.Core.Bool.{Bool, true, false}
use mathlib.Core.List.{List, [], ◌∷◌, ◌++◌, map, append_assoc}
use mathlib.Core.Option.{Option, none, some, some-injective, some-ne-none}
use lib.ListN.{length, take, drop, take-append-drop, length-drop}
use lib.Seq.{drop-cons, drop-drop}
use lib.Dec.{T, leb, leb→le}
use lib.Pow.{are_bytes}
use Rattle.laws.specs.Lists.{flat, need}
use Rattle.field.specs.Bytes.{u8_at, u32_at, u64_at, words, bytes_of}
use Rattle.field.proofs.Reading.{u64_drop, bytes_drop, u32_forth, u64_forth, words_forth}
use Rattle.paper.specs.Image.{Row, remotes, row_length_of, row_in, cons_row, walk_rows, row_bytes}

-- ---- a row

-- the first 24 bytes
head_forth : (b : List ℕ) → T (are_bytes b) → 24 ≤ length b
    → bytes_of 4 (u32_at b 0) ++ (u8_at b 4 ∷ u8_at b 5 ∷ u8_at b 6 ∷ u8_at b 7 ∷ bytes_of 8 (u64_at b 8) ++ (bytes_of 8 (u64_at b 16) ++ drop 24 b)) ≡ b
head_forth b y h =
    ap (λ (l : List ℕ). bytes_of 4 (u32_at b 0) ++ l)
    (ap (λ (l : List ℕ). u8_at b 4 ∷ u8_at b 5 ∷ u8_at b 6 ∷ u8_at b 7 ∷ l)
    (ap (λ (l : List ℕ). bytes_of 8 (u64_at b 8) ++ l)
    (ap₂ (λ (n : ℕ) (l : List ℕ). bytes_of 8 n ++ l) (sym (u64_drop b 16 0)) (sym (drop-drop 8 16 b))
    ∙ u64_forth (drop 16 b) (bytes_drop 16 b y) (omega (arith, length-drop 16 b)))
    ∙ ap₂ (λ (n : ℕ) (l : List ℕ). bytes_of 8 n ++ l) (sym (u64_drop b 8 0)) (sym (drop-drop 8 8 b))
    ∙ u64_forth (drop 8 b) (bytes_drop 8 b y) (omega (arith, length-drop 8 b)))
    ∙ sym (drop-cons b 4 0 (omega (arith, h)) ∙ ap (λ (l : List ℕ). u8_at b 4 ∷ l) (drop-cons b 5 0 (omega (arith, h))
    ∙ ap (λ (l : List ℕ). u8_at b 5 ∷ l) (drop-cons b 6 0 (omega (arith, h)) ∙ ap (λ (l : List ℕ). u8_at b 6 ∷ l) (drop-cons b 7 0 (omega (arith, h)))))))
    ∙ u32_forth b y (omega (arith, h))

-- the body and the remote slots
tail_forth : (k : ℕ) (b : List ℕ) → T (are_bytes b) → 48 + 4 * k ≤ length b
    → (take 24 (drop 24 b) ++ flat (map (bytes_of 4) (words k (drop 48 b)))) ++ drop (48 + 4 * k) b ≡ drop 24 b
tail_forth k b y h =
    let ws = flat (map (bytes_of 4) (words k (drop 48 b))) in
    append_assoc (take 24 (drop 24 b)) ws (drop (48 + 4 * k) b)
    ∙ ap (λ (l : List ℕ). take 24 (drop 24 b) ++ l)
    (ap (λ (l : List ℕ). ws ++ l) (sym (drop-drop (4 * k) 48 b))
    ∙ words_forth k (drop 48 b) (bytes_drop 48 b y) (omega (arith, length-drop 48 b)) ∙ sym (drop-drop 24 24 b))
    ∙ take-append-drop 24 (drop 24 b)

pub row_forth : (b : List ℕ) → T (are_bytes b) → row_length_of (u64_at b 8) ≤ length b → row_bytes (row_in b) ++ drop (row_length_of (u64_at b 8)) b ≡ b
unfolding row_length_of row_bytes row_in bytes_of
row_forth b y h =
    ap (λ (l : List ℕ). bytes_of 4 (u32_at b 0) ++ (u8_at b 4 ∷ u8_at b 5 ∷ u8_at b 6 ∷ u8_at b 7 ∷ bytes_of 8 (u64_at b 8) ++ (bytes_of 8 (u64_at b 16) ++ l)))
    (tail_forth (remotes (u64_at b 8)) b y h)
    ∙ head_forth b y (omega (arith, h))

-- ---- the rows of a part

pub need_inv : {A : Type 0} (t : Bool) (x : Option A) (a : A) → need t x ≡ some a → T t × (x ≡ some a)
unfolding need
need_inv true x a e = (tt, e)
need_inv false x a e = absurd (some-ne-none a (sym e))

pub rows_forth : (k : ℕ) (b : List ℕ) (t : List Row × List ℕ) → T (are_bytes b) → walk_rows k b ≡ some t → flat (map row_bytes t.0) ++ t.1 ≡ b
unfolding walk_rows flat cons_row
rows_forth zero b t y e = ap (λ (s : List Row × List ℕ). flat (map row_bytes s.0) ++ s.1) (sym (some-injective ([], b) t e))
rows_forth (suc k) b t y e =
    let n = row_length_of (u64_at b 8) in
    let h = need_inv (leb n (length b)) (cons_row (row_in b) (walk_rows k (drop n b))) t e in
    go (walk_rows k (drop n b)) (λ s f. rows_forth k (drop n b) s (bytes_drop n b y) f) (leb→le n (length b) h.0) h.1
  where
    go : (o : Option (List Row × List ℕ)) → ((s : List Row × List ℕ) → o ≡ some s → flat (map row_bytes s.0) ++ s.1 ≡ drop (row_length_of (u64_at b 8)) b)
        → row_length_of (u64_at b 8) ≤ length b → cons_row (row_in b) o ≡ some t → flat (map row_bytes t.0) ++ t.1 ≡ b
    go none ih h f = absurd (some-ne-none t (sym f))
    go (some s) ih h f =
        ap (λ (z : List Row × List ℕ). flat (map row_bytes z.0) ++ z.1) (sym (some-injective (row_in b ∷ s.0, s.1) t f))
        ∙ append_assoc (row_bytes (row_in b)) (flat (map row_bytes s.0)) s.1
        ∙ ap (λ (l : List ℕ). row_bytes (row_in b) ++ l) (ih s refl)
        ∙ row_forth b y h
