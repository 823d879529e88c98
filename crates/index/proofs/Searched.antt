-- What `binary_search` says of the names of a part, as a slot of the part. Assumes nothing.
use Prim.Native.Nat.{ℕ, ◌+◌, ◌-◌, ◌≤◌, ◌<◌}
use native.Mathlib.Nat.{eq-or-lt_of_le, le_refl}
use native.Mathlib.Omega.{arith}
use mathlib.Core.Path.{◌≡◌, sym, ◌∙◌}
use mathlib.Core.Logic.{⊎_elim}
use mathlib.Core.List.{List}
use lib.ListN.{length, get_or, drop}
use Rattle.std.specs.Prelude.{slice_range, Ok, Err}
use Rattle.std.specs.Ordering.{nat_cmp}
use Rattle.std.specs.List.Sorted.{IsBinarySearchResult}
use Rattle.std.proofs.lemmas.List.{get_or-take, get_or-drop}
use Rattle.std.proofs.lemmas.List.Edits.{length-between}
use Rattle.std.proofs.lemmas.List.Sorted.{searched}
use Rattle.index.specs.Find.{Sorted, Hit, Miss}

abbrev names_in : List ℕ → List ℕ → ℕ → List ℕ
names_in keys starts p = slice_range keys (get_or starts p 0) (get_or starts (p + 1) 0)

module _ (keys starts : List ℕ) (p : ℕ) (k : Sorted keys (get_or starts p 0) (get_or starts (p + 1) 0)) where
  long : length (names_in keys starts p) ≡ get_or starts (p + 1) 0 - get_or starts p 0
  long = length-between keys (get_or starts p 0) (get_or starts (p + 1) 0) k.room

  name_at : (i : ℕ) → i < length (names_in keys starts p) → get_or (names_in keys starts p) i 0 ≡ get_or keys (get_or starts p 0 + i) 0
  name_at i h =
      get_or-take (get_or starts (p + 1) 0 - get_or starts p 0) (drop (get_or starts p 0) keys) i 0 (omega (arith, long))
      ∙ get_or-drop (get_or starts p 0) keys i 0

  rise : (i j : ℕ) → i ≤ j → j < length (names_in keys starts p) → get_or (names_in keys starts p) i 0 ≤ get_or (names_in keys starts p) j 0
  rise i j h g =
      ⊎_elim (λ (e : i ≡ j). rw e (le_refl (get_or (names_in keys starts p) j 0)))
      (λ (l : i < j). omega (arith, name_at i (omega arith), name_at j g, k.ascends (get_or starts p 0 + i) (get_or starts p 0 + j) (omega arith) (omega arith) (omega (arith, long, k.order))))
      (eq-or-lt_of_le h)

  pub found : (x i : ℕ) → IsBinarySearchResult (λ y. nat_cmp y x) (names_in keys starts p) (Ok i) → Hit keys starts p x i
  found x i r =
      let s = searched (names_in keys starts p) x (Ok i) r rise in
      record { inside = omega (arith, long, k.order, s.0); same = sym (name_at i s.0) ∙ s.1 }

  pub missed : (x i : ℕ) → IsBinarySearchResult (λ y. nat_cmp y x) (names_in keys starts p) (Err i) → Miss keys starts p x i
  missed x i r =
      let s = searched (names_in keys starts p) x (Err i) r rise in
      record {
        inside = omega (arith, long, k.order, s.0);
        below = λ t h. omega (arith, name_at t (omega (arith, s.0)), s.1 t h);
        above = λ t h g. omega (arith, name_at t (omega (arith, long)), s.2 t h (omega (arith, long)));
      }
