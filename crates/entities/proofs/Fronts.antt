-- Lists one after another at the front of an array, and where each begins. Assumes nothing.
use Prim.Native.Nat.{ℕ, zero, suc, ◌+◌, ◌-◌, ◌≤◌, ◌<◌}
use native.Mathlib.Nat.{eq-or-lt_of_le, le_refl}
use native.Mathlib.Numerals.{add-one}
use native.Mathlib.Omega.{arith}
use mathlib.Core.Path.{◌≡◌, refl, sym, ap, ◌∙◌}
use mathlib.Core.Logic.{⊎_elim}
use mathlib.Core.List.{List, [], ◌++◌, map}
use lib.ListN.{length, get_or, take, drop, length-append}
use lib.Seq.{take-take, take_all, take-length, take-append_seam, drop-append_seam}
use Rattle.laws.specs.Lists.{up_to}
use Rattle.laws.proofs.Agree.{map_same}
use Rattle.laws.proofs.Ranges.{up_to_in}
use Rattle.merge.specs.Runs.{part, run_of, runs_of}
use Rattle.merge.proofs.Lists.{part-front}

-- the first n lists
unfoldable pub front : (ℕ → List ℕ) → ℕ → List ℕ
front f zero = []
front f (suc n) = front f n ++ f n

module _ (f : ℕ → List ℕ) where
  pub front_none : front f 0 ≡ []
  unfolding front
  front_none = refl

  pub front-more : (n : ℕ) → front f (n + 1) ≡ front f n ++ f n
  unfolding front
  front-more n = rw (add-one n) refl

  pub front_length : (n : ℕ) → length (front f (n + 1)) ≡ length (front f n) + length (f n)
  front_length n = ap length (front-more n) ∙ length-append (front f n) (f n)

  -- an array that begins with n of them begins with fewer
  fewer : (ord : List ℕ) (n : ℕ) → take (length (front f (suc n))) ord ≡ front f (suc n) → take (length (front f n)) ord ≡ front f n
  unfolding front
  fewer ord n e =
      sym (take-take (length (front f n)) (length (front f n ++ f n)) ord (omega (arith, length-append (front f n) (f n))))
      ∙ ap (take (length (front f n))) e ∙ take-append_seam (front f n) (f n)

  front_of : (ord : List ℕ) (n : ℕ) → take (length (front f n)) ord ≡ front f n → (i : ℕ) → i ≤ n → take (length (front f i)) ord ≡ front f i
  front_of ord zero e i h = let z : i ≡ 0 = omega arith in rw z e
  front_of ord (suc n) e i h =
      ⊎_elim (λ (p : i ≡ suc n). rw p e) (λ (l : i < suc n). front_of ord n (fewer ord n e) i (omega arith)) (eq-or-lt_of_le h)

  part_is : (ord : List ℕ) (n i : ℕ) → take (length (front f n)) ord ≡ front f n → i < n → part (length (front f i)) (length (front f (i + 1))) ord ≡ f i
  part_is ord n i e h =
      let a = length (front f i) in
      let z = length (front f (i + 1)) in
      let l = front_length i in
      let g : take z ord ≡ take z (front f (i + 1)) = front_of ord n e (i + 1) (omega arith) ∙ sym (take-length (front f (i + 1))) in
      part-front a z z ord (front f (i + 1)) (omega arith) (le_refl z) g
      ∙ ap (λ (xs : List ℕ). take (z - a) (drop a xs)) (front-more i)
      ∙ ap (take (z - a)) (drop-append_seam (front f i) (f i))
      ∙ take_all (z - a) (f i) (omega arith)

  -- and its runs are these lists
  pub runs_are : (st ord : List ℕ) (n : ℕ) → ((i : ℕ) → i ≤ n → get_or st i 0 ≡ length (front f i)) → take (length (front f n)) ord ≡ front f n
      → runs_of st ord n ≡ map f (up_to n)
  unfolding runs_of
  runs_are st ord n begins e =
      map_same (run_of st ord) f (up_to n) (λ i j.
      let h = up_to_in n i j in
      rw (begins i (omega arith), begins (i + 1) (omega arith)) (part_is ord n i e h))
