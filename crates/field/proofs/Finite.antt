-- The bits of a finite f64 are no NaN's.
-- Assumes nothing.
use Prim.Native.Nat.{ℕ, ◌/◌, ◌%◌, ◌^◌}
use mathlib.Core.Path.{◌≡◌, sym, ◌∙◌}
use mathlib.Core.Bool.{true, false, not}
use lib.Dec.{T, eqb}
use lib.Pow.{field}
use lib.Ieee.{binary64, nan_bits, of_bits, is_nan}
use lib.Ieee.Bits.{nan_bits_is}
use borrow.Author.Tests.{eqb-false, ne_eqb, not-true}
use Rattle.field.specs.Bytes.{finite}

pub finite_no_nan : (x : ℕ) → finite x ≡ true → nan_bits binary64 x ≡ false
unfolding nan_bits
finite_no_nan x h =
    let n = eqb-false (x / 2 ^ 52 % 2 ^ 11) 2047 (not-true (eqb (x / 2 ^ 52 % 2 ^ 11) 2047) h) in
    rw (ne_eqb (x % 2 ^ 63 / 2 ^ 52) 2047 (λ e. n (sym (field x 11 52) ∙ e)))

pub finite_plain : (x : ℕ) → finite x ≡ true → T (not (is_nan (of_bits binary64 x)))
finite_plain x h = rw (← nan_bits_is binary64 x, finite_no_nan x h) tt
