-- Reading undoes writing: the digits of a number below 2 ^ 32 are a text that is that number. Assumes nothing.
use Prim.Native.Nat.{ℕ, zero, suc, ◌+◌, ◌*◌, ◌-◌, ◌/◌, ◌%◌, ◌≤◌, ◌<◌}
use native.Mathlib.Omega.{arith}
use mathlib.Core.Path.{◌≡◌, refl, ap, ap₂, ◌∙◌}
use mathlib.Core.Bool.{Bool, true, false, ◌&&◌, cond}
use mathlib.Core.Logic.{◌⊎◌, inl, inr, ⊎_elim}
use mathlib.Core.List.{List, [], ◌∷◌, ◌++◌}
use Rattle.std.specs.Prelude.{Option, None, Some}
use lib.ListN.{length, length-append}
use lib.Dec.{ltb, ltb→lt, nltb→le}
use borrow.Author.Tests.{lt-ltb, le-leb}
use Rattle.laws.proofs.Tests.{decide}
use Rattle.decimal.specs.Decimal.{decimal, goes_on, read_from, number_in}
use Rattle.decimal.proofs.Decimals.{decimal-one, decimal-more}

small_or_not : (n : ℕ) → (n < 10) ⊎ (10 ≤ n)
small_or_not n = ⊎_elim (λ t. inl (ltb→lt n 10 t)) (λ t. inr (nltb→le n 10 t)) (decide (ltb n 10))

-- a digit read
read_digit : (n d : ℕ) (ds : List ℕ) → d < 10 → n * 10 + d < 4294967296 → read_from n ((48 + d) ∷ ds) ≡ read_from (n * 10 + d) ds
unfolding read_from
read_digit n d ds h small =
    let v : 48 + d - 48 ≡ d = omega arith in
    let on : goes_on n (48 + d) ≡ true =
    ap₂ ◌&&◌ (ap₂ ◌&&◌ (le-leb 48 (48 + d) (omega arith)) (le-leb (48 + d) 57 (omega arith))) (lt-ltb (n * 10 + (48 + d - 48)) 4294967296 (omega arith)) in
    ap (λ (t : Bool). cond t (read_from (n * 10 + (48 + d - 48)) ds) None) on ∙ ap (λ (k : ℕ). read_from (n * 10 + k) ds) v

never : {A : Type 0} {n : ℕ} → ◌≡◌ {A = Option ℕ} None (Some n) → A
never e = let z : ◌≡◌ {A = ℕ} 0 1 = cc in absurd (omega arith)

-- a digit more at the end
read_then : (a m d : ℕ) (xs : List ℕ) → d < 10 → m * 10 + d < 4294967296 → read_from a xs ≡ Some m → read_from a (xs ++ ((48 + d) ∷ [])) ≡ Some (m * 10 + d)
unfolding read_from
read_then a m d [] h small e =
    let same : a ≡ m = cc in
    let v : a * 10 + d ≡ m * 10 + d = omega arith in
    read_digit a d [] h (omega arith) ∙ ap Some v
read_then a m d (x ∷ xs) h small e = go (goes_on a x) (λ f. read_then (a * 10 + (x - 48)) m d xs h small f) e
  where
    go : (t : Bool) → (read_from (a * 10 + (x - 48)) xs ≡ Some m → read_from (a * 10 + (x - 48)) (xs ++ ((48 + d) ∷ [])) ≡ Some (m * 10 + d))
        → cond t (read_from (a * 10 + (x - 48)) xs) None ≡ Some m
        → cond t (read_from (a * 10 + (x - 48)) (xs ++ ((48 + d) ∷ []))) None ≡ Some (m * 10 + d)
    go true more f = more f
    go false more f = never f

read_back : (f n : ℕ) → n < f → n < 4294967296 → read_from 0 (decimal n) ≡ Some n
unfolding read_from
read_back zero n h small = absurd (omega (arith, h))
read_back (suc f) n h small = ⊎_elim
    (λ l.
    let v : 0 * 10 + n ≡ n = omega arith in
    ap (read_from 0) (decimal-one n l) ∙ read_digit 0 n [] l (omega arith) ∙ ap Some v)
    (λ l.
    let v : n / 10 * 10 + n % 10 ≡ n = omega arith in
    ap (read_from 0) (decimal-more n l (omega arith)).is ∙ read_then 0 (n / 10) (n % 10) (decimal (n / 10)) (omega arith) (omega arith) (read_back f (n / 10) (omega arith) (omega arith)) ∙ ap Some v)
    (small_or_not n)

number_some : (text : List ℕ) → 0 < length text → number_in text ≡ read_from 0 text
unfolding number_in
number_some [] h = absurd (omega (arith, h))
number_some (d ∷ ds) h = refl

decimal_some : (n : ℕ) → n < 4294967296 → 0 < length (decimal n)
decimal_some n small = ⊎_elim
    (λ l. omega (arith, ap length (decimal-one n l)))
    (λ l. omega (arith, ap length (decimal-more n l (omega arith)).is, length-append (decimal (n / 10)) ((48 + n % 10) ∷ [])))
    (small_or_not n)

pub number-back : (n : ℕ) → n < 4294967296 → number_in (decimal n) ≡ Some n
number-back n small = number_some (decimal n) (decimal_some n small) ∙ read_back (suc n) n (omega arith) small
