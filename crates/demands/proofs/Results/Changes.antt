-- The number of places at which two lists differ: none of a list and itself, and the same both ways.
-- Assumes nothing.
use Prim.Native.Nat.{ℕ, ◌+◌}
use mathlib.Core.Path.{◌≡◌, refl, sym, ap, ap₂}
use mathlib.Core.Bool.{Bool, cond}
use mathlib.Core.List.{List, [], ◌∷◌}
use lib.Dec.{eqb, eqb_refl, eqb→eq}
use Rattle.paper.specs.Move.{changes}
use Rattle.laws.proofs.Tests.{T_true, iff_eq, eq-eqb}

pub changes_none : (xs : List ℕ) → changes xs xs ≡ 0
unfolding changes
changes_none [] = refl
changes_none (x ∷ xs) = ap₂ ◌+◌ (ap (λ (t : Bool). cond t 0 1) (T_true (eqb x x) (eqb_refl x))) (changes_none xs)

eqb_sym : (x y : ℕ) → eqb x y ≡ eqb y x
eqb_sym x y = iff_eq (eqb x y) (eqb y x) (λ t. eq-eqb y x (sym (eqb→eq x y t))) (λ t. eq-eqb x y (sym (eqb→eq y x t)))

pub changes_sym : (xs ys : List ℕ) → changes xs ys ≡ changes ys xs
unfolding changes
changes_sym [] [] = refl
changes_sym [] (y ∷ ys) = refl
changes_sym (x ∷ xs) [] = refl
changes_sym (x ∷ xs) (y ∷ ys) = ap₂ ◌+◌ (ap (λ (t : Bool). cond t 0 1) (eqb_sym x y)) (changes_sym xs ys)
