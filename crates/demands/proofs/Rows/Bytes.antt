-- Lists of bytes, and the numbers of 64 bits in them, written and read.
-- Assumes nothing.
use Prim.Native.Nat.{ℕ, zero, suc, ◌+◌, ◌*◌, ◌/◌, ◌%◌, ◌^◌, ◌≤◌}
use native.Mathlib.Nat.{mod-lt, mul-zero, mul-suc, add_comm}
use native.Mathlib.Omega.{arith}
use mathlib.Core.Path.{◌≡◌, refl, sym, ap, ap₂, ◌∙◌}
use mathlib.Core.Logic.{inl, inr}
use mathlib.Core.List.{List, [], ◌∷◌, ◌++◌, map, append_assoc}
use lib.ListN.{length, drop, replicate, length-drop, length-append}
use lib.Seq.{drop-drop, drop_at}
use lib.Dec.{T, ltb, ltb→lt, lt→ltb, lit<}
use lib.Pow.{are_bytes}
use Rattle.laws.specs.Lists.{In, every, flat}
use Rattle.field.specs.Bytes.{u64_at, longs, bytes_of}
use Rattle.laws.proofs.Tests.{and_l, and_r, both}
use Rattle.field.proofs.Numbers.{u64_back, length-bytes}
use Rattle.field.proofs.Reading.{bytes_drop, u64_forth, u64_lt}

-- ---- lists of bytes

pub bytes_of_lem : (w n : ℕ) → T (are_bytes (bytes_of w n))
unfolding bytes_of
bytes_of_lem zero n = tt
bytes_of_lem (suc w) n = both (ltb (n % 256) 256) (are_bytes (bytes_of w (n / 256))) (lt→ltb (n % 256) 256 (mod-lt n (lit< tt))) (bytes_of_lem w (n / 256))

pub bytes-append : (a b : List ℕ) → T (are_bytes a) → T (are_bytes b) → T (are_bytes (a ++ b))
bytes-append [] b x y = y
bytes-append (c ∷ a) b x y =
    both (ltb c 256) (are_bytes (a ++ b)) (and_l (ltb c 256) (are_bytes a) x) (bytes-append a b (and_r (ltb c 256) (are_bytes a) x) y)

pub bytes-flat : {A : Type 0} (f : A → List ℕ) (xs : List A) → ((a : A) → In a xs → T (are_bytes (f a))) → T (are_bytes (flat (map f xs)))
unfolding flat
bytes-flat f [] h = tt
bytes-flat f (x ∷ xs) h = bytes-append (f x) (flat (map f xs)) (h x (inl refl)) (bytes-flat f xs (λ a i. h a (inr i)))

pub bytes-zeros : (n : ℕ) → T (are_bytes (replicate n 0))
bytes-zeros zero = tt
bytes-zeros (suc n) = bytes-zeros n

-- numbers of w bytes each, one after the other
pub length_each : (w : ℕ) (g : ℕ → ℕ) (xs : List ℕ) → length (flat (map (λ k. bytes_of w (g k)) xs)) ≡ w * length xs
unfolding flat
length_each w g [] = sym (mul-zero w)
length_each w g (x ∷ xs) =
    length-append (bytes_of w (g x)) (flat (map (λ k. bytes_of w (g k)) xs)) ∙ ap₂ ◌+◌ (length-bytes w (g x)) (length_each w g xs)
    ∙ add_comm w (w * length xs) ∙ sym (mul-suc w (length xs))

-- ---- numbers of 64 bits

pub longs_forth : (k : ℕ) (b : List ℕ) → T (are_bytes b) → 8 * k ≤ length b → flat (map (bytes_of 8) (longs k b)) ++ drop (8 * k) b ≡ b
unfolding longs flat
longs_forth zero b y h = refl
longs_forth (suc k) b y h =
    let w = flat (map (bytes_of 8) (longs k (drop 8 b))) in
    let m : 8 * suc k ≡ 8 + 8 * k = omega arith in
    append_assoc (bytes_of 8 (u64_at b 0)) w (drop (8 * suc k) b)
    ∙ ap (λ (l : List ℕ). bytes_of 8 (u64_at b 0) ++ l)
    (ap (λ (l : List ℕ). w ++ l) (ap (λ (n : ℕ). drop n b) m ∙ sym (drop-drop (8 * k) 8 b))
    ∙ longs_forth k (drop 8 b) (bytes_drop 8 b y) (omega (arith, length-drop 8 b)))
    ∙ u64_forth b y (omega (arith, h))

pub longs-back : (xs rest : List ℕ) → T (every (λ x. ltb x (2 ^ 64)) xs) → longs (length xs) (flat (map (bytes_of 8) xs) ++ rest) ≡ xs
unfolding longs flat every
longs-back [] rest h = refl
longs-back (x ∷ xs) rest h =
    let small = ltb x (2 ^ 64) in
    let others = every (λ x. ltb x (2 ^ 64)) xs in
    let tail = flat (map (bytes_of 8) xs) in
    ap₂ {C = List ℕ} (λ (a : ℕ) (l : List ℕ). a ∷ l)
    (ap (λ (b : List ℕ). u64_at b 0) (append_assoc (bytes_of 8 x) tail rest) ∙ u64_back x (tail ++ rest) (ltb→lt x (2 ^ 64) (and_l small others h)))
    (ap (λ (b : List ℕ). longs (length xs) b) (ap (drop 8) (append_assoc (bytes_of 8 x) tail rest) ∙ drop_at (bytes_of 8 x) (tail ++ rest) 8 (length-bytes 8 x))
    ∙ longs-back xs rest (and_r small others h))

pub length-longs : (k : ℕ) (b : List ℕ) → length (longs k b) ≡ k
unfolding longs
length-longs zero b = refl
length-longs (suc k) b = ap suc (length-longs k (drop 8 b))

pub longs_small : (k : ℕ) (b : List ℕ) → T (are_bytes b) → T (every (λ x. ltb x (2 ^ 64)) (longs k b))
unfolding longs every
longs_small zero b y = tt
longs_small (suc k) b y =
    both (ltb (u64_at b 0) (2 ^ 64)) (every (λ x. ltb x (2 ^ 64)) (longs k (drop 8 b))) (lt→ltb (u64_at b 0) (2 ^ 64) (u64_lt b 0 y))
    (longs_small k (drop 8 b) (bytes_drop 8 b y))
