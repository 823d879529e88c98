-- Numbers to bytes and back.
-- Assumes nothing.
use Prim.Native.Nat.{ℕ, zero, suc, ◌*◌, ◌/◌, ◌%◌, ◌^◌, ◌<◌}
use native.Mathlib.Omega.{arith}
use mathlib.Core.Path.{◌≡◌, refl, ap, ap₂, ◌∙◌}
use mathlib.Core.List.{List, [], ◌∷◌, ◌++◌, map, append_assoc}
use lib.ListN.{length, drop, length-append}
use lib.Seq.{drop_at}
use lib.Dec.{T, ltb, ltb→lt}
use Rattle.laws.specs.Lists.{flat, every}
use Rattle.laws.proofs.Tests.{and_l, and_r}
use Rattle.std.specs.Int.{w32, w64, to_le_bytes}
use Rattle.field.specs.Bytes.{u32_at, u64_at, words, bytes_of}

pub u32_back : (n : ℕ) (rest : List ℕ) → n < 2 ^ 32 → u32_at (bytes_of 4 n ++ rest) 0 ≡ n
unfolding bytes_of
u32_back n rest h = omega arith

pub u64_back : (n : ℕ) (rest : List ℕ) → n < 2 ^ 64 → u64_at (bytes_of 8 n ++ rest) 0 ≡ n
unfolding bytes_of
u64_back n rest h = omega arith

pub length-bytes : (w n : ℕ) → length (bytes_of w n) ≡ w
unfolding bytes_of
length-bytes zero n = refl
length-bytes (suc w) n = ap suc (length-bytes w (n / 256))

-- std's bytes of a number are these
pub le_bytes_4 : (n : ℕ) → to_le_bytes w32 n ≡ bytes_of 4 n
unfolding bytes_of
le_bytes_4 n = λ i.
    n % 256
    ∷ (let e : n / 2 ^ 8 % 256 ≡ n / 256 % 256 = omega arith in e i)
    ∷ (let e : n / 2 ^ 16 % 256 ≡ n / 256 / 256 % 256 = omega arith in e i)
    ∷ (let e : n / 2 ^ 24 % 256 ≡ n / 256 / 256 / 256 % 256 = omega arith in e i)
    ∷ []

pub le_bytes_8 : (n : ℕ) → to_le_bytes w64 n ≡ bytes_of 8 n
unfolding bytes_of
le_bytes_8 n = λ i.
    n % 256
    ∷ (let e : n / 2 ^ 8 % 256 ≡ n / 256 % 256 = omega arith in e i)
    ∷ (let e : n / 2 ^ 16 % 256 ≡ n / 256 / 256 % 256 = omega arith in e i)
    ∷ (let e : n / 2 ^ 24 % 256 ≡ n / 256 / 256 / 256 % 256 = omega arith in e i)
    ∷ (let e : n / 2 ^ 32 % 256 ≡ n / 256 / 256 / 256 / 256 % 256 = omega arith in e i)
    ∷ (let e : n / 2 ^ 40 % 256 ≡ n / 256 / 256 / 256 / 256 / 256 % 256 = omega arith in e i)
    ∷ (let e : n / 2 ^ 48 % 256 ≡ n / 256 / 256 / 256 / 256 / 256 / 256 % 256 = omega arith in e i)
    ∷ (let e : n / 2 ^ 56 % 256 ≡ n / 256 / 256 / 256 / 256 / 256 / 256 / 256 % 256 = omega arith in e i)
    ∷ []

-- words written one after the other are read back
pub words_back : (ws rest : List ℕ) → T (every (λ w. ltb w (2 ^ 32)) ws) → words (length ws) (flat (map (bytes_of 4) ws) ++ rest) ≡ ws
unfolding words flat every
words_back [] rest h = refl
words_back (w ∷ ws) rest h =
    let small = ltb w (2 ^ 32) in
    let others = every (λ w. ltb w (2 ^ 32)) ws in
    let tail = flat (map (bytes_of 4) ws) in
    ap₂ {C = List ℕ} (λ (x : ℕ) (xs : List ℕ). x ∷ xs)
    (ap (λ (b : List ℕ). u32_at b 0) (append_assoc (bytes_of 4 w) tail rest) ∙ u32_back w (tail ++ rest) (ltb→lt w (2 ^ 32) (and_l small others h)))
    (ap (λ (b : List ℕ). words (length ws) b) (ap (drop 4) (append_assoc (bytes_of 4 w) tail rest) ∙ drop_at (bytes_of 4 w) (tail ++ rest) 4 (length-bytes 4 w))
    ∙ words_back ws rest (and_r small others h))

pub length-written : (ws : List ℕ) → length (flat (map (bytes_of 4) ws)) ≡ 4 * length ws
unfolding flat
length-written [] = refl
length-written (w ∷ ws) = omega (arith, length-append (bytes_of 4 w) (flat (map (bytes_of 4) ws)), length-bytes 4 w, length-written ws)
