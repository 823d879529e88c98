-- A number in decimal: its last digit stands behind the digits of its tenth, and it has 20 digits at most. Assumes nothing.
use Prim.Native.Nat.{ℕ, zero, suc, ◌+◌, ◌/◌, ◌%◌, ◌^◌, ◌≤◌, ◌<◌}
use native.Mathlib.Nat.{pow-suc}
use native.Mathlib.Omega.{arith}
use mathlib.Core.Path.{◌≡◌, refl, sym, ap, ◌∙◌}
use mathlib.Core.Bool.{Bool, true, false, cond}
use mathlib.Core.List.{List, [], ◌∷◌, ◌++◌}
use lib.ListN.{length}
use lib.Dec.{T, ltb, lt→ltb, ltb→lt}
use Rattle.laws.proofs.Tests.{T_true}
use Rattle.decimal.specs.Decimal.{digits, decimal}
use Rattle.decimal.proofs.Runs.{Splits}

-- ---- one digit, or more

one : (n : ℕ) → n < 10 → ltb n 10 ≡ true
one n h = T_true (ltb n 10) (lt→ltb n 10 h)

more : (n : ℕ) → 10 ≤ n → ltb n 10 ≡ false
more n h = go (ltb n 10) (ltb→lt n 10)
  where
    go : (t : Bool) → (T t → n < 10) → t ≡ false
    go true f = absurd (omega (arith, f tt))
    go false f = refl

digits-one : (k n : ℕ) (rest : List ℕ) → n < 10 → digits (suc k) n rest ≡ (48 + n) ∷ rest
unfolding digits
digits-one k n rest h = ap (λ (t : Bool). cond t ((48 + n) ∷ rest) (digits k (n / 10) ((48 + n % 10) ∷ rest))) (one n h)

digits_more : (k n : ℕ) (rest : List ℕ) → 10 ≤ n → digits (suc k) n rest ≡ digits k (n / 10) ((48 + n % 10) ∷ rest)
unfolding digits
digits_more k n rest h = ap (λ (t : Bool). cond t ((48 + n) ∷ rest) (digits k (n / 10) ((48 + n % 10) ∷ rest))) (more n h)

-- ---- what stands behind them

digits_behind : (k n : ℕ) (xs ys : List ℕ) → digits k n (xs ++ ys) ≡ digits k n xs ++ ys
unfolding digits
digits_behind zero n xs ys = refl
digits_behind (suc k) n xs ys = go (ltb n 10) (digits_behind k (n / 10) ((48 + n % 10) ∷ xs) ys)
  where
    go : (t : Bool) → digits k (n / 10) ((48 + n % 10) ∷ (xs ++ ys)) ≡ digits k (n / 10) ((48 + n % 10) ∷ xs) ++ ys
        → cond t ((48 + n) ∷ (xs ++ ys)) (digits k (n / 10) ((48 + n % 10) ∷ (xs ++ ys)))
        ≡ cond t ((48 + n) ∷ xs) (digits k (n / 10) ((48 + n % 10) ∷ xs)) ++ ys
    go true e = refl
    go false e = e

-- ---- more places than there are digits change nothing

digits_enough : (k n : ℕ) (rest : List ℕ) → n < 10 ^ suc k → digits (suc k) n rest ≡ digits (suc (suc k)) n rest
unfolding digits
digits_enough zero n rest h = digits-one 0 n rest (omega (arith, h)) ∙ sym (digits-one 1 n rest (omega (arith, h)))
digits_enough (suc k) n rest h = go (ltb n 10) (digits_enough k (n / 10) ((48 + n % 10) ∷ rest) (omega (arith, pow-suc 10 (suc k), h)))
  where
    go : (t : Bool) → digits (suc k) (n / 10) ((48 + n % 10) ∷ rest) ≡ digits (suc (suc k)) (n / 10) ((48 + n % 10) ∷ rest)
        → cond t ((48 + n) ∷ rest) (digits (suc k) (n / 10) ((48 + n % 10) ∷ rest))
        ≡ cond t ((48 + n) ∷ rest) (digits (suc (suc k)) (n / 10) ((48 + n % 10) ∷ rest))
    go true e = refl
    go false e = e

pub decimal-one : (n : ℕ) → n < 10 → decimal n ≡ (48 + n) ∷ []
unfolding decimal
decimal-one n h = digits-one 19 n [] h

-- a number below 2 ^ 64
pub decimal-more : (n : ℕ) → 10 ≤ n → n < 18446744073709551616 → Splits (decimal n) (decimal (n / 10)) ((48 + n % 10) ∷ [])
unfolding decimal
decimal-more n h small = record {
  is =
      digits_more 19 n [] h ∙ digits_behind 19 (n / 10) [] ((48 + n % 10) ∷ [])
      ∙ ap (λ (l : List ℕ). l ++ ((48 + n % 10) ∷ [])) (digits_enough 18 (n / 10) [] (omega (arith, small)));
}

-- ---- how many they are

length_digits : (k n : ℕ) (rest : List ℕ) → length (digits k n rest) ≤ k + length rest
unfolding digits
length_digits zero n rest = omega arith
length_digits (suc k) n rest = go (ltb n 10) (length_digits k (n / 10) ((48 + n % 10) ∷ rest))
  where
    go : (t : Bool) → length (digits k (n / 10) ((48 + n % 10) ∷ rest)) ≤ k + suc (length rest)
        → length (cond t ((48 + n) ∷ rest) (digits k (n / 10) ((48 + n % 10) ∷ rest))) ≤ suc k + length rest
    go true e = omega arith
    go false e = omega arith

pub length-decimal : (n : ℕ) → length (decimal n) ≤ 20
unfolding decimal
length-decimal n = length_digits 20 n []

-- a number below 10 ^ k has k digits at most
digits_below : (f k n : ℕ) (rest : List ℕ) → 0 < k → n < 10 ^ k → length (digits f n rest) ≤ k + length rest
unfolding digits
digits_below zero k n rest pos h = omega arith
digits_below (suc f) zero n rest pos h = absurd (omega (arith, pos))
digits_below (suc f) (suc zero) n rest pos h = omega (arith, ap length (digits-one f n rest (omega (arith, h))))
digits_below (suc f) (suc (suc k)) n rest pos h =
    let tenth : n / 10 < 10 ^ suc k = omega (arith, pow-suc 10 (suc k), h) in
    go (ltb n 10) (digits_below f (suc k) (n / 10) ((48 + n % 10) ∷ rest) (omega arith) tenth)
  where
    go : (t : Bool) → length (digits f (n / 10) ((48 + n % 10) ∷ rest)) ≤ suc k + suc (length rest)
        → length (cond t ((48 + n) ∷ rest) (digits f (n / 10) ((48 + n % 10) ∷ rest))) ≤ suc (suc k) + length rest
    go true e = omega arith
    go false e = omega arith

pub length_below : (k n : ℕ) → 0 < k → n < 10 ^ k → length (decimal n) ≤ k
unfolding decimal
length_below k n pos h = omega (arith, digits_below 20 k n [] pos h)
