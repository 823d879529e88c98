-- An entry is whole, with its zeros and its dimension, and comes after the one before it: on plain values. Assumes nothing.
use Prim.Native.Nat.{ℕ, zero, suc, ◌+◌, ◌-◌, ◌*◌, ◌/◌, ◌≤◌, ◌<◌}
use native.Mathlib.Omega.{arith}
use mathlib.Core.Path.{◌≡◌, refl}
use mathlib.Core.Bool.{Bool, true, false, ◌&&◌}
use mathlib.Core.List.{List}
use lib.ListN.{length}
use lib.Dec.{T, leb, ltb, eqb, leb→le, le→leb}
use Rattle.laws.proofs.Tests.{T_true}
use Rattle.field.specs.Bytes.{u8_at, u16_at}
use Rattle.paper.specs.Move.{entry_name, ascends, entry_fitting}

pub first-ascends : (l : List ℕ) (i : ℕ) → i ≡ 0 → eqb i 0 ≡ ascends l i
unfolding ascends
first-ascends l i e = rw e refl

pub later_ascends : (l : List ℕ) (i a b : ℕ) → (i ≡ 0 → ⊥) → a ≡ entry_name l (i - 1) → b ≡ entry_name l i → ltb a b ≡ ascends l i
unfolding ascends
later_ascends l zero a b n e f = absurd (n refl)
later_ascends l (suc i) a b n e f = let z : suc i - 1 ≡ i = omega arith in rw (e, f, z) refl

first_fails : (a b c d : Bool) → (T a → ⊥) → false ≡ (a && b && c && d)
first_fails true b c d n = absurd (n tt)
first_fails false b c d n = refl

pub cut_short : (l : List ℕ) (i : ℕ) → length l / 8 ≤ i → false ≡ entry_fitting l i
unfolding entry_fitting
cut_short l i h =
    first_fails (leb (8 * i + 8) (length l)) (eqb (u16_at l (8 * i + 6)) 0) (leb (u8_at l (8 * i + 4)) 3) (ascends l i) (λ t.
    let g = leb→le (8 * i + 8) (length l) t in absurd (omega arith))

pub whole_fits : (l : List ℕ) (i z d : ℕ) (after : Bool) → i < length l / 8 → z ≡ u16_at l (8 * i + 6) → d ≡ u8_at l (8 * i + 4) → after ≡ ascends l i
    → (eqb z 0 && leb d 3 && after) ≡ entry_fitting l i
unfolding entry_fitting
whole_fits l i z d after h e f g =
    rw (e, f, g, T_true (leb (8 * i + 8) (length l)) (le→leb (8 * i + 8) (length l) (omega arith))) refl
