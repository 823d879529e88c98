-- Bytes that are all zero, and the numbers that they make. Assumes nothing.
use Prim.Native.Nat.{ℕ, zero, suc, ◌+◌}
use native.Mathlib.Nat.{zero-add, suc-add}
use native.Mathlib.Omega.{arith}
use mathlib.Core.Path.{◌≡◌, refl, sym, ap, ap₂, ◌∙◌}
use mathlib.Core.Bool.{Bool, true, false, ◌&&◌}
use mathlib.Core.List.{List, [], ◌∷◌, ◌++◌}
use lib.ListN.{take, drop}
use lib.Seq.{take-add, drop-drop, take-nil, get_or-drop}
use lib.Dec.{eqb, eqb→eq}
use Rattle.laws.specs.Lists.{every}
use Rattle.laws.proofs.Tests.{and_l, and_r, both, iff_eq, eq-eqb}
use Rattle.field.specs.Bytes.{u8_at, u16_at, u32_at, u64_at}

abbrev pub zeros : List ℕ → Bool
zeros = every (eqb 0)

zeros-append : (xs ys : List ℕ) → zeros (xs ++ ys) ≡ (zeros xs && zeros ys)
unfolding every
zeros-append [] ys = refl
zeros-append (x ∷ xs) ys = ap (λ (t : Bool). eqb 0 x && t) (zeros-append xs ys) ∙ and_assoc (eqb 0 x) (zeros xs) (zeros ys)
  where
    and_assoc : (a b c : Bool) → (a && (b && c)) ≡ ((a && b) && c)
    and_assoc true b c = refl
    and_assoc false b c = refl

pub drop-take : (m n : ℕ) (b : List ℕ) → drop m (take (m + n) b) ≡ take n (drop m b)
drop-take zero n b = rw (zero-add n)
drop-take (suc m) n [] = rw (suc-add m n, take-nil n)
drop-take (suc m) n (x ∷ b) = rw (suc-add m n) (drop-take m n b)

module _ (b : List ℕ) where
  -- the first m bytes from o on and the n behind them, from k on
  pub zeros_add : (m n o k : ℕ) → o + m ≡ k → zeros (take (m + n) (drop o b)) ≡ (zeros (take m (drop o b)) && zeros (take n (drop k b)))
  zeros_add m n o k e =
      ap zeros (take-add m n (drop o b)) ∙ zeros-append (take m (drop o b)) (take n (drop m (drop o b)))
      ∙ ap (λ (l : List ℕ). zeros (take m (drop o b)) && zeros (take n l)) (drop-drop m o b ∙ ap (λ (i : ℕ). drop i b) e)

  -- a number is 0 where its two halves are
  halves : (m n o x y s : ℕ) → eqb x 0 ≡ zeros (take m (drop o b)) → eqb y 0 ≡ zeros (take n (drop (o + m) b))
      → (s ≡ 0 → (x ≡ 0) × (y ≡ 0)) → (x ≡ 0 → y ≡ 0 → s ≡ 0) → eqb s 0 ≡ zeros (take (m + n) (drop o b))
  halves m n o x y s ex ey to fro =
      iff_eq (eqb s 0) (eqb x 0 && eqb y 0)
      (λ t. let w = to (eqb→eq s 0 t) in both (eqb x 0) (eqb y 0) (eq-eqb x 0 w.0) (eq-eqb y 0 w.1))
      (λ t. eq-eqb s 0 (fro (eqb→eq x 0 (and_l (eqb x 0) (eqb y 0) t)) (eqb→eq y 0 (and_r (eqb x 0) (eqb y 0) t))))
      ∙ ap₂ ◌&&◌ ex ey ∙ sym (zeros_add m n o (o + m) refl)

  zero_u8 : (o : ℕ) → eqb (u8_at b o) 0 ≡ zeros (take 1 (drop o b))
  unfolding every
  zero_u8 o = let e : o + 0 ≡ o = omega arith in ap (λ (i : ℕ). eqb (u8_at b i) 0) (sym e) ∙ ap (λ (x : ℕ). eqb x 0) (sym (get_or-drop o b 0 0)) ∙ first (drop o b)
    where
      first : (l : List ℕ) → eqb (u8_at l 0) 0 ≡ zeros (take 1 l)
      first [] = refl
      first (x ∷ l) = iff_eq (eqb x 0) (eqb 0 x && true) (λ t. both (eqb 0 x) true (eq-eqb 0 x (sym (eqb→eq x 0 t))) tt) (λ t. eq-eqb x 0 (sym (eqb→eq 0 x (and_l (eqb 0 x) true t))))

  zero_u16 : (o : ℕ) → eqb (u16_at b o) 0 ≡ zeros (take 2 (drop o b))
  zero_u16 o = halves 1 1 o (u8_at b o) (u8_at b (o + 1)) (u16_at b o) (zero_u8 o) (zero_u8 (o + 1)) (λ e. (omega arith, omega arith)) (λ e f. omega arith)

  pub zero_u32 : (o : ℕ) → eqb (u32_at b o) 0 ≡ zeros (take 4 (drop o b))
  zero_u32 o = halves 2 2 o (u16_at b o) (u16_at b (o + 2)) (u32_at b o) (zero_u16 o) (zero_u16 (o + 2)) (λ e. (omega arith, omega arith)) (λ e f. omega arith)

  pub zero_u64 : (o : ℕ) → eqb (u64_at b o) 0 ≡ zeros (take 8 (drop o b))
  zero_u64 o = halves 4 4 o (u32_at b o) (u32_at b (o + 4)) (u64_at b o) (zero_u32 o) (zero_u32 (o + 4)) (λ e. (omega arith, omega arith)) (λ e f. omega arith)
