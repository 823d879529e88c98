-- The parts of an image and its head: what the walk reads is written to the same bytes, and what is written is read back.
-- proofs/ImageCodec.antt puts them together. Assumes nothing.
use Prim.Native.Nat.{ℕ, zero, suc, ◌^◌, ◌<◌, ◌≤◌}
use native.Mathlib.Omega.{arith}
use mathlib.Core.Path.{◌≡◌, refl, sym, ap, ap₂, ◌∙◌, subst}
use mathlib.Core.List.{List, [], ◌∷◌, ◌++◌, map, append_assoc}
use mathlib.Core.Option.{Option, none, some, some-injective, some-ne-none}
use lib.ListN.{length, get_or, take, drop, length-append, length-take, length-drop}
use lib.Seq.{drop-cons, drop_at}
use lib.Dec.{T, leb, le→leb, leb→le}
use lib.Pow.{are_bytes}
use Rattle.laws.specs.Lists.{flat}
use Rattle.field.specs.Bytes.{u8_at, u16_at, u32_at, u64_at, bytes_of}
use Rattle.field.proofs.Numbers.{u32_back, length-bytes}
use Rattle.field.proofs.Reading.{bytes_drop, bytes_take, byte_lt, u32_lt, u64_lt, u32_forth, length-words, words_small}
use Rattle.paper.specs.Image.{Row, Set, no_row, remotes, row_length_of, row_in, cons_row, cons_part, walked, walk_rows, walk_parts, row_bytes, bytes_of_part}
use Rattle.paper.proofs.RowBack.{RowFits, rows_back, need_true}
use Rattle.paper.proofs.RowForth.{need_inv, rows_forth}

-- ---- what is read has the widths of its fields

pub record Wide (r : Row) : Type 0 where
  pub row : RowFits r
  pub body : T (are_bytes r.body)

row_wide : (b : List ℕ) → T (are_bytes b) → row_length_of (u64_at b 8) ≤ length b → Wide (row_in b)
unfolding row_length_of row_in
row_wide b y h =
    record {
      row = record {
        number = u32_lt b y;
        mask = u64_lt b 8 y;
        value = u64_lt b 16 y;
        body = omega (arith, length-take 24 (drop 24 b), length-drop 24 b);
        slots = length-words (remotes (u64_at b 8)) (drop 48 b);
        each = words_small (remotes (u64_at b 8)) (drop 48 b) (bytes_drop 48 b y);
      };
      body = bytes_take 24 (drop 24 b) (bytes_drop 24 b y);
    }

pub record Read (k : ℕ) (t : List Row × List ℕ) : Type 0 where
  pub count : length t.0 ≡ k
  pub wide : (s : ℕ) → s < k → Wide (get_or t.0 s no_row)
  pub rest : T (are_bytes t.1)

rows_read : (k : ℕ) (b : List ℕ) (t : List Row × List ℕ) → T (are_bytes b) → walk_rows k b ≡ some t → Read k t
unfolding walk_rows cons_row
rows_read zero b t y e =
    subst (Read zero) (some-injective ([], b) t e) (record { count = refl; wide = λ s h. absurd (native.Mathlib.Nat.not-suc-le-zero h); rest = y })
rows_read (suc k) b t y e =
    let n = row_length_of (u64_at b 8) in
    let h = need_inv (leb n (length b)) (cons_row (row_in b) (walk_rows k (drop n b))) t e in
    go (walk_rows k (drop n b)) (λ s f. rows_read k (drop n b) s (bytes_drop n b y) f) (row_wide b y (leb→le n (length b) h.0)) h.1
  where
    at : (s : List Row × List ℕ) → Read k s → Wide (row_in b) → (i : ℕ) → i < suc k → Wide (get_or (row_in b ∷ s.0) i no_row)
    at s r w zero h = w
    at s r w (suc i) h = r.wide i (native.Mathlib.Nat.le_of_suc-le-suc h)

    go : (o : Option (List Row × List ℕ)) → ((s : List Row × List ℕ) → o ≡ some s → Read k s) → Wide (row_in b) → cons_row (row_in b) o ≡ some t → Read (suc k) t
    go none ih w f = absurd (some-ne-none t (sym f))
    go (some s) ih w f =
        let r = ih s refl in
        subst (Read (suc k)) (some-injective (row_in b ∷ s.0, s.1) t f) (record { count = ap suc r.count; wide = at s r w; rest = r.rest })

-- ---- the parts

pub record Walk (n : ℕ) (b : List ℕ) (S : Set) : Type 0 where
  pub count : length S ≡ n
  pub wide : (p s : ℕ) → s < length (get_or S p []) → Wide (get_or (get_or S p []) s no_row)
  pub bytes : flat (map bytes_of_part S) ≡ b

walk_at : (t : List Row × List ℕ) (n k : ℕ) (S : Set) → Read k t → Walk n t.1 S → (p s : ℕ) → s < length (get_or (t.0 ∷ S) p []) → Wide (get_or (get_or (t.0 ∷ S) p []) s no_row)
walk_at t n k S r w zero s h = r.wide s (subst (λ (z : ℕ). s < z) r.count h)
walk_at t n k S r w (suc p) s h = w.wide p s h

pub parts_walk : (n : ℕ) (b : List ℕ) (S : Set) → T (are_bytes b) → walk_parts n b ≡ some S → Walk n b S
unfolding walk_parts walked cons_part flat bytes_of_part
parts_walk zero [] S y e =
    subst (Walk zero []) (some-injective [] S e) (record { count = refl; wide = λ p s h. absurd (native.Mathlib.Nat.not-suc-le-zero h); bytes = refl })
parts_walk zero (x ∷ b) S y e = absurd (some-ne-none S (sym e))
parts_walk (suc n) b S y e =
    let h = need_inv (leb 4 (length b)) (walked (walk_rows (u32_at b 0) (drop 4 b)) (walk_parts n)) S e in
    go (walk_rows (u32_at b 0) (drop 4 b)) refl (parts_walk n) (leb→le 4 (length b) h.0) h.1
  where
    done : (t : List Row × List ℕ) (P : Set) → walk_rows (u32_at b 0) (drop 4 b) ≡ some t → 4 ≤ length b → Walk n t.1 P → Walk (suc n) b (t.0 ∷ P)
    done t P f h w =
        let r = rows_read (u32_at b 0) (drop 4 b) t (bytes_drop 4 b y) f in
        record {
          count = ap suc w.count;
          wide = walk_at t n (u32_at b 0) P r w;
          bytes =
              append_assoc (bytes_of 4 (length t.0)) (flat (map row_bytes t.0)) (flat (map bytes_of_part P))
              ∙ ap₂ (λ (k : ℕ) (l : List ℕ). bytes_of 4 k ++ l) r.count
              (ap (λ (l : List ℕ). flat (map row_bytes t.0) ++ l) w.bytes ∙ rows_forth (u32_at b 0) (drop 4 b) t (bytes_drop 4 b y) f)
              ∙ u32_forth b y h;
        }

    last : (t : List Row × List ℕ) (o : Option Set) → walk_rows (u32_at b 0) (drop 4 b) ≡ some t → ((P : Set) → T (are_bytes t.1) → o ≡ some P → Walk n t.1 P)
        → 4 ≤ length b → cons_part t.0 o ≡ some S → Walk (suc n) b S
    last t none f ih h g = absurd (some-ne-none S (sym g))
    last t (some P) f ih h g =
        subst (Walk (suc n) b) (some-injective (t.0 ∷ P) S g)
        (done t P f h (ih P (rows_read (u32_at b 0) (drop 4 b) t (bytes_drop 4 b y) f).rest refl))

    go : (o : Option (List Row × List ℕ)) → walk_rows (u32_at b 0) (drop 4 b) ≡ o → ((b : List ℕ) (P : Set) → T (are_bytes b) → walk_parts n b ≡ some P → Walk n b P)
        → 4 ≤ length b → walked o (walk_parts n) ≡ some S → Walk (suc n) b S
    go none f ih h g = absurd (some-ne-none S (sym g))
    go (some t) f ih h g = last t (walk_parts n t.1) f (ih t.1) h g

-- ---- and back

pub parts_back : (S : Set) → ((p s : ℕ) → s < length (get_or S p []) → RowFits (get_or (get_or S p []) s no_row)) → ((p : ℕ) → length (get_or S p []) < 2 ^ 32)
    → walk_parts (length S) (flat (map bytes_of_part S)) ≡ some S
unfolding walk_parts walked cons_part flat bytes_of_part
parts_back [] f few = refl
parts_back (rows ∷ S) f few =
    let tail = flat (map bytes_of_part S) in
    let body = flat (map row_bytes rows) in
    let b = (bytes_of 4 (length rows) ++ body) ++ tail in
    let split : b ≡ bytes_of 4 (length rows) ++ (body ++ tail) = append_assoc (bytes_of 4 (length rows)) body tail in
    let long : 4 ≤ length b = omega (arith, ap length split, length-append (bytes_of 4 (length rows)) (body ++ tail), length-bytes 4 (length rows)) in
    need_true (leb 4 (length b)) (walked (walk_rows (u32_at b 0) (drop 4 b)) (walk_parts (length S))) (le→leb 4 (length b) long)
    ∙ ap₂ (λ (k : ℕ) (l : List ℕ). walked (walk_rows k l) (walk_parts (length S)))
    (ap (λ (l : List ℕ). u32_at l 0) split ∙ u32_back (length rows) (body ++ tail) (few 0))
    (ap (drop 4) split ∙ drop_at (bytes_of 4 (length rows)) (body ++ tail) 4 (length-bytes 4 (length rows)))
    ∙ ap (λ (o : Option (List Row × List ℕ)). walked o (walk_parts (length S))) (rows_back rows tail (λ s h. f 0 s h))
    ∙ ap (cons_part rows) (parts_back S (λ p s h. f (suc p) s h) (λ p. few (suc p)))

-- ---- the head of an image

-- the first three bytes, and five after them
eight_front : (b : List ℕ) → 8 ≤ length b → b ≡ take 3 b ++ (u8_at b 3 ∷ u8_at b 4 ∷ u8_at b 5 ∷ u8_at b 6 ∷ u8_at b 7 ∷ drop 8 b)
eight_front b h =
    sym (lib.ListN.take-append-drop 3 b)
    ∙ ap (λ (l : List ℕ). take 3 b ++ l)
    (drop-cons b 3 0 (omega arith) ∙ ap (λ (l : List ℕ). u8_at b 3 ∷ l) (drop-cons b 4 0 (omega arith) ∙ ap (λ (l : List ℕ). u8_at b 4 ∷ l)
    (drop-cons b 5 0 (omega arith) ∙ ap (λ (l : List ℕ). u8_at b 5 ∷ l) (drop-cons b 6 0 (omega arith) ∙ ap (λ (l : List ℕ). u8_at b 6 ∷ l) (drop-cons b 7 0 (omega arith))))))

pub head_is : (b : List ℕ) → T (are_bytes b) → 8 ≤ length b → take 3 b ≡ 68 ∷ 77 ∷ 80 ∷ [] → u16_at b 3 ≡ 1 → u16_at b 6 ≡ 0
    → b ≡ 68 ∷ 77 ∷ 80 ∷ 1 ∷ 0 ∷ u8_at b 5 ∷ 0 ∷ 0 ∷ drop 8 b
head_is b y h mark version zeros =
    let b₃ : u8_at b 3 ≡ 1 = omega (arith, byte_lt b 3 y, byte_lt b 4 y) in
    let b₄ : u8_at b 4 ≡ 0 = omega (arith, byte_lt b 3 y, byte_lt b 4 y) in
    let b₆ : u8_at b 6 ≡ 0 = omega arith in
    let b₇ : u8_at b 7 ≡ 0 = omega arith in
    eight_front b h ∙ λ i. mark i ++ (b₃ i ∷ b₄ i ∷ u8_at b 5 ∷ b₆ i ∷ b₇ i ∷ drop 8 b)
