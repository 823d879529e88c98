-- An array filled place by place. Assumes nothing.
use Prim.Native.Nat.{ℕ, ◌+◌, ◌≤◌, ◌<◌}
use native.Mathlib.Nat.{eq-or-lt_of_le}
use native.Mathlib.Omega.{arith}
use mathlib.Core.Path.{◌≡◌, sym, ◌∙◌}
use mathlib.Core.Logic.{⊎_elim}
use mathlib.Core.List.{List}
use lib.ListN.{length, get_or, set, length-set}
use Rattle.std.specs.Prelude.{remove}
use Rattle.std.proofs.lemmas.List.{ext_get_or, get_or-set_same, get_or-set_other}
use Rattle.std.proofs.lemmas.List.Edits.{get_or-remove_below, get_or-remove_above, length-remove}
use Rattle.boundary.specs.Boundary.{HighestAt, CornersOf}

-- place i gets what f has there
pub filled_more : (f : ℕ → ℕ) (xs : List ℕ) (n i v : ℕ) → i < n → (length xs ≡ n) × ((j : ℕ) → j < i → get_or xs j 0 ≡ f j) → v ≡ f i
    → (length (set xs i v) ≡ n) × ((j : ℕ) → j < i + 1 → get_or (set xs i v) j 0 ≡ f j)
filled_more f xs n i v h l e = (
  length-set xs i v ∙ l.0,
  λ j g.
      ⊎_elim (λ (q : j ≡ i). rw q (get_or-set_same xs i v 0 (omega (arith, l.0)) ∙ e))
      (λ (q : j < i). get_or-set_other xs i j v 0 (λ z. omega arith) ∙ l.1 j q) (eq-or-lt_of_le (omega (arith, g))),
)

-- without the vertex at a place, those behind it come one place down
pub rest_below : (vs : List ℕ) (k i : ℕ) → k < length vs → i < k → get_or vs i 0 ≡ get_or (remove vs k) i 0
rest_below vs k i h l = sym (get_or-remove_below vs k 0 i l h)

pub rest_above : (vs : List ℕ) (k i : ℕ) → k < length vs → k ≤ i → get_or vs (i + 1) 0 ≡ get_or (remove vs k) i 0
rest_above vs k i h l = sym (get_or-remove_above vs k 0 i l h)

pub rest_filled : (vs xs : List ℕ) (k n m i : ℕ) → n ≡ m + 1 → length vs ≡ n → k < n → m ≤ i → (length xs ≡ m) × ((j : ℕ) → j < i → get_or xs j 0 ≡ get_or (remove vs k) j 0) → xs ≡ remove vs k
rest_filled vs xs k n m i e l h d f =
    ext_get_or 0 xs (remove vs k) (omega (arith, e, l, f.0, length-remove vs k (omega (arith, l)))) (λ j g. f.1 j (omega (arith, g, f.0)))

-- the corners so far, and the next
pub corners_more : (fs : List (List ℕ)) (n k v : ℕ) (vs : List ℕ) → k + 1 < n → (length vs ≡ n) × CornersOf fs n k vs → HighestAt fs n k v
    → (length (set vs (k + 1) v) ≡ n) × CornersOf fs n (k + 1) (set vs (k + 1) v)
corners_more fs n k v vs h l e = (
  length-set vs (k + 1) v ∙ l.0,
  record {
    first = rw (get_or-set_other vs (k + 1) 0 v 0 (λ z. omega arith)) l.1.first;
    others = λ j g.
        ⊎_elim (λ (q : j ≡ k). rw (q, get_or-set_same vs (k + 1) v 0 (omega (arith, l.0))) e)
        (λ (q : j < k). rw (get_or-set_other vs (k + 1) (j + 1) v 0 (λ z. omega arith)) (l.1.others j q)) (eq-or-lt_of_le (omega (arith, g)));
  },
)
