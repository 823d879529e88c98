-- Runs of stores, one after another. Assumes nothing.
use Prim.Native.Nat.{ℕ, suc, ◌+◌, ◌≤◌}
use native.Mathlib.Nat.{add-zero}
use native.Mathlib.Omega.{arith}
use mathlib.Core.Path.{◌≡◌, ap, ◌∙◌}
use mathlib.Core.List.{List, [], ◌∷◌, ◌++◌}
use lib.ListN.{length, set, drop}
use lib.Seq.{sets, sets-eq}

pub sets_append : (l : List ℕ) (i : ℕ) (xs ys : List ℕ) → sets l i (xs ++ ys) ≡ sets (sets l i xs) (i + length xs) ys
sets_append l i [] ys = rw add-zero
sets_append l i (x ∷ xs) ys =
    let e : i + suc (length xs) ≡ suc i + length xs = omega arith in
    rw e (sets_append (set l i x) (suc i) xs ys)

pub sets_then : (l m n : List ℕ) (i j : ℕ) (xs ys : List ℕ) → m ≡ sets l i xs → n ≡ sets m j ys → j ≡ i + length xs → n ≡ sets l i (xs ++ ys)
sets_then l m n i j xs ys e f h = f ∙ rw (e, h, sets_append)

-- a list written over the front of another stands before what is left of that
pub sets_front : (l xs : List ℕ) → length xs ≤ length l → sets l 0 xs ≡ xs ++ drop (length xs) l
sets_front l xs h = let e : 0 + length xs ≡ length xs = omega arith in sets-eq xs l 0 (omega arith) ∙ ap (λ (k : ℕ). xs ++ drop k l) e
