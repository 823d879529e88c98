-- The least and the greatest vertices of faces, face by face. Assumes nothing.
use Prim.Native.Nat.{ℕ, ◌+◌, ◌≤◌, ◌<◌, min, max}
use native.Mathlib.Nat.{eq-or-lt_of_le}
use native.Mathlib.Omega.{arith}
use mathlib.Core.Path.{◌≡◌}
use mathlib.Core.Logic.{⊎_elim}
use mathlib.Core.List.{List, []}
use lib.ListN.{length, get_or}
use Rattle.std.specs.Ordering.{nat_cmp, ord_max}
use Rattle.std.proofs.Common.{tests}
use Rattle.boundary.specs.Boundary.{LowestAt, HighestAt}

-- what `max` answers
max_is : (a b : ℕ) → ord_max nat_cmp a b ≡ max a b
max_is a b = grind (arith, tests)

-- v is no more than the first of the first j faces, and no less than the least of all
pub record Lowering (fs : List (List ℕ)) (j v : ℕ) : Type 0 where
  pub below : (i : ℕ) → i < j → v ≤ get_or (get_or fs i []) 0 0
  pub greatest : (u : ℕ) → ((i : ℕ) → i < length fs → u ≤ get_or (get_or fs i []) 0 0) → u ≤ v

pub low_start : (fs : List (List ℕ)) → 0 < length fs → Lowering fs 0 (get_or (get_or fs 0 []) 0 0)
low_start fs h = record { below = λ i g. absurd (omega (arith, g)); greatest = λ u f. f 0 h }

pub low_more : (fs : List (List ℕ)) (j v : ℕ) → j < length fs → Lowering fs j v → Lowering fs (j + 1) (min v (get_or (get_or fs j []) 0 0))
low_more fs j v h l =
    record {
      below = λ i g.
          ⊎_elim (λ (e : i ≡ j). rw e (omega arith))
          (λ (k : i < j). omega (arith, l.below i k)) (eq-or-lt_of_le (omega (arith, g)));
      greatest = λ u f. omega (arith, l.greatest u f, f j h);
    }

pub low_done : (fs : List (List ℕ)) (n j v : ℕ) → length fs ≡ n → n ≤ j → Lowering fs j v → LowestAt fs n v
low_done fs n j v e h l = record { below = λ i g. l.below i (omega arith); greatest = λ u f. l.greatest u (λ i g. f i (omega (arith, e, g))) }

pub high_more : (fs : List (List ℕ)) (j k v : ℕ) → HighestAt fs j k v → HighestAt fs (j + 1) k (ord_max nat_cmp v (get_or (get_or fs j []) k 0))
high_more fs j k v l =
    let m = max_is v (get_or (get_or fs j []) k 0) in
    record {
      above = λ i g.
          ⊎_elim (λ (e : i ≡ j). rw e (omega (arith, m)))
          (λ (q : i < j). omega (arith, m, l.above i q)) (eq-or-lt_of_le (omega (arith, g)));
      least = λ u f. omega (arith, m, l.least u (λ i g. f i (omega (arith, g))), f j (omega arith));
    }
