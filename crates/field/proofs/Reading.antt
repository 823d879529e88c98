-- Bytes to numbers and back to the same bytes; what is read has the width that it was read from. Assumes nothing.
use Prim.Native.Nat.{ℕ, zero, suc, ◌+◌, ◌*◌, ◌/◌, ◌%◌, ◌^◌, ◌<◌, ◌≤◌}
use native.Mathlib.Nat.{add_assoc, not-suc-le-zero, le_of_suc-le-suc}
use native.Mathlib.Omega.{arith}
use mathlib.Core.Path.{◌≡◌, refl, sym, ap, ap₂, ◌∙◌}
use mathlib.Core.List.{List, [], ◌∷◌, ◌++◌, map, append_assoc}
use lib.ListN.{length, get_or, take, drop, length-drop}
use lib.Seq.{get_or-drop, drop-drop}
use lib.Dec.{T, ltb, ltb→lt, lt→ltb, lit<}
use lib.Pow.{are_bytes}
use Rattle.laws.specs.Lists.{flat, every}
use Rattle.laws.proofs.Tests.{and_l, and_r, both}
use Rattle.field.specs.Bytes.{u16_at, u32_at, u64_at, words, bytes_of}

-- ---- a number further on is a number at the front of what is left

pub u16_drop : (b : List ℕ) (i j : ℕ) → u16_at (drop i b) j ≡ u16_at b (i + j)
u16_drop b i j =
    ap₂ (λ (x y : ℕ). x + 2 ^ 8 * y) (get_or-drop i b j 0) (get_or-drop i b (j + 1) 0 ∙ ap (λ (k : ℕ). get_or b k 0) (sym (add_assoc i j 1)))

pub u32_drop : (b : List ℕ) (i j : ℕ) → u32_at (drop i b) j ≡ u32_at b (i + j)
u32_drop b i j =
    ap₂ (λ (x y : ℕ). x + 2 ^ 16 * y) (u16_drop b i j) (u16_drop b i (j + 2) ∙ ap (u16_at b) (sym (add_assoc i j 2)))

pub u64_drop : (b : List ℕ) (i j : ℕ) → u64_at (drop i b) j ≡ u64_at b (i + j)
u64_drop b i j =
    ap₂ (λ (x y : ℕ). x + 2 ^ 32 * y) (u32_drop b i j) (u32_drop b i (j + 4) ∙ ap (u32_at b) (sym (add_assoc i j 4)))

pub bytes_drop : (i : ℕ) (b : List ℕ) → T (are_bytes b) → T (are_bytes (drop i b))
bytes_drop zero b y = y
bytes_drop (suc i) [] y = y
bytes_drop (suc i) (x ∷ b) y = bytes_drop i b (and_r (ltb x 256) (are_bytes b) y)

pub bytes_take : (i : ℕ) (b : List ℕ) → T (are_bytes b) → T (are_bytes (take i b))
bytes_take zero b y = tt
bytes_take (suc i) [] y = y
bytes_take (suc i) (x ∷ b) y = both (ltb x 256) (are_bytes (take i b)) (and_l (ltb x 256) (are_bytes b) y) (bytes_take i b (and_r (ltb x 256) (are_bytes b) y))

pub bytes_all : (b : List ℕ) → ((i : ℕ) → get_or b i 0 < 256) → T (are_bytes b)
bytes_all [] h = tt
bytes_all (x ∷ b) h = both (ltb x 256) (are_bytes b) (lt→ltb x 256 (h 0)) (bytes_all b (λ i. h (suc i)))

-- ---- four bytes and eight

-- four bytes are the bytes of their number
four : (w x y z : ℕ) → w < 256 → x < 256 → y < 256 → z < 256
    → bytes_of 4 ((w + 2 ^ 8 * x) + 2 ^ 16 * (y + 2 ^ 8 * z)) ≡ w ∷ x ∷ y ∷ z ∷ []
unfolding bytes_of
four w x y z hw hx hy hz = λ i.
    (let e : ((w + 2 ^ 8 * x) + 2 ^ 16 * (y + 2 ^ 8 * z)) % 256 ≡ w = omega arith in e i)
    ∷ (let e : ((w + 2 ^ 8 * x) + 2 ^ 16 * (y + 2 ^ 8 * z)) / 256 % 256 ≡ x = omega arith in e i)
    ∷ (let e : ((w + 2 ^ 8 * x) + 2 ^ 16 * (y + 2 ^ 8 * z)) / 256 / 256 % 256 ≡ y = omega arith in e i)
    ∷ (let e : ((w + 2 ^ 8 * x) + 2 ^ 16 * (y + 2 ^ 8 * z)) / 256 / 256 / 256 % 256 ≡ z = omega arith in e i)
    ∷ []

pub u32_forth : (b : List ℕ) → T (are_bytes b) → 4 ≤ length b → bytes_of 4 (u32_at b 0) ++ drop 4 b ≡ b
u32_forth [] y h = absurd (not-suc-le-zero h)
u32_forth (a ∷ []) y h = absurd (not-suc-le-zero (le_of_suc-le-suc h))
u32_forth (a ∷ c ∷ []) y h = absurd (not-suc-le-zero (le_of_suc-le-suc (le_of_suc-le-suc h)))
u32_forth (a ∷ c ∷ d ∷ []) y h = absurd (not-suc-le-zero (le_of_suc-le-suc (le_of_suc-le-suc (le_of_suc-le-suc h))))
u32_forth (a ∷ c ∷ d ∷ e ∷ b) y h =
    let y₁ = and_r (ltb a 256) (are_bytes (c ∷ d ∷ e ∷ b)) y in
    let y₂ = and_r (ltb c 256) (are_bytes (d ∷ e ∷ b)) y₁ in
    let y₃ = and_r (ltb d 256) (are_bytes (e ∷ b)) y₂ in
    ap (λ (l : List ℕ). l ++ b)
    (four a c d e (ltb→lt a 256 (and_l (ltb a 256) (are_bytes (c ∷ d ∷ e ∷ b)) y)) (ltb→lt c 256 (and_l (ltb c 256) (are_bytes (d ∷ e ∷ b)) y₁))
    (ltb→lt d 256 (and_l (ltb d 256) (are_bytes (e ∷ b)) y₂)) (ltb→lt e 256 (and_l (ltb e 256) (are_bytes b) y₃)))

-- a number of eight bytes is written as its two halves
eight : (x y : ℕ) → x < 2 ^ 32 → bytes_of 8 (x + 2 ^ 32 * y) ≡ bytes_of 4 x ++ bytes_of 4 y
unfolding bytes_of
eight x y h = λ i.
    (let e : (x + 2 ^ 32 * y) % 256 ≡ x % 256 = omega arith in e i)
    ∷ (let e : (x + 2 ^ 32 * y) / 256 % 256 ≡ x / 256 % 256 = omega arith in e i)
    ∷ (let e : (x + 2 ^ 32 * y) / 256 / 256 % 256 ≡ x / 256 / 256 % 256 = omega arith in e i)
    ∷ (let e : (x + 2 ^ 32 * y) / 256 / 256 / 256 % 256 ≡ x / 256 / 256 / 256 % 256 = omega arith in e i)
    ∷ bytes_of 4 (half i)
  where
    half : (x + 2 ^ 32 * y) / 256 / 256 / 256 / 256 ≡ y
    half = omega arith

pub byte_lt : (b : List ℕ) (i : ℕ) → T (are_bytes b) → get_or b i 0 < 256
byte_lt [] i y = lit< tt
byte_lt (x ∷ b) zero y = ltb→lt x 256 (and_l (ltb x 256) (are_bytes b) y)
byte_lt (x ∷ b) (suc i) y = byte_lt b i (and_r (ltb x 256) (are_bytes b) y)

pub u32_lt : (b : List ℕ) → T (are_bytes b) → u32_at b 0 < 2 ^ 32
u32_lt b y = omega (arith, byte_lt b 0 y, byte_lt b 1 y, byte_lt b 2 y, byte_lt b 3 y)

pub u64_lt : (b : List ℕ) (i : ℕ) → T (are_bytes b) → u64_at b i < 2 ^ 64
u64_lt b i y =
    omega (arith, byte_lt b i y, byte_lt b (i + 1) y, byte_lt b (i + 2) y, byte_lt b (i + 2 + 1) y, byte_lt b (i + 4) y, byte_lt b (i + 4 + 1) y, byte_lt b (i + 4 + 2) y, byte_lt b (i + 4 + 2 + 1) y)

pub u64_forth : (b : List ℕ) → T (are_bytes b) → 8 ≤ length b → bytes_of 8 (u64_at b 0) ++ drop 8 b ≡ b
u64_forth b y h =
    ap (λ (l : List ℕ). l ++ drop 8 b) (eight (u32_at b 0) (u32_at b 4) (u32_lt b y))
    ∙ append_assoc (bytes_of 4 (u32_at b 0)) (bytes_of 4 (u32_at b 4)) (drop 8 b)
    ∙ ap (λ (l : List ℕ). bytes_of 4 (u32_at b 0) ++ l)
    (ap₂ (λ (n : ℕ) (l : List ℕ). bytes_of 4 n ++ l) (sym (u32_drop b 4 0)) (sym (drop-drop 4 4 b))
    ∙ u32_forth (drop 4 b) (bytes_drop 4 b y) (omega (arith, length-drop 4 b)))
    ∙ u32_forth b y (omega (arith, h))

pub words_forth : (k : ℕ) (b : List ℕ) → T (are_bytes b) → 4 * k ≤ length b → flat (map (bytes_of 4) (words k b)) ++ drop (4 * k) b ≡ b
unfolding words flat
words_forth zero b y h = refl
words_forth (suc k) b y h =
    let w = flat (map (bytes_of 4) (words k (drop 4 b))) in
    let m : 4 * suc k ≡ 4 + 4 * k = omega arith in
    append_assoc (bytes_of 4 (u32_at b 0)) w (drop (4 * suc k) b)
    ∙ ap (λ (l : List ℕ). bytes_of 4 (u32_at b 0) ++ l)
    (ap (λ (l : List ℕ). w ++ l) (ap (λ (n : ℕ). drop n b) m ∙ sym (drop-drop (4 * k) 4 b))
    ∙ words_forth k (drop 4 b) (bytes_drop 4 b y) (omega (arith, length-drop 4 b)))
    ∙ u32_forth b y (omega (arith, h))

pub length-words : (k : ℕ) (b : List ℕ) → length (words k b) ≡ k
unfolding words
length-words zero b = refl
length-words (suc k) b = ap suc (length-words k (drop 4 b))

pub words_small : (k : ℕ) (b : List ℕ) → T (are_bytes b) → T (every (λ w. ltb w (2 ^ 32)) (words k b))
unfolding words every
words_small zero b y = tt
words_small (suc k) b y =
    both (ltb (u32_at b 0) (2 ^ 32)) (every (λ w. ltb w (2 ^ 32)) (words k (drop 4 b))) (lt→ltb (u32_at b 0) (2 ^ 32) (u32_lt b y))
    (words_small k (drop 4 b) (bytes_drop 4 b y))
