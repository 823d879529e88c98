-- The faces' slots of a row, written face by face.
-- Assumes nothing.
use Prim.Native.Nat.{ℕ, suc, ◌+◌, ◌*◌, ◌≤◌, ◌<◌}
use native.Mathlib.Nat.{add-zero}
use native.Mathlib.Omega.{arith}
use mathlib.Core.Path.{◌≡◌, refl, ap, ◌∙◌}
use mathlib.Core.List.{List, [], ◌∷◌, ◌++◌, map}
use lib.ListN.{length, get_or, drop, length-map, drop_of_length-le}
use lib.Seq.{sets, drop-cons}
use Rattle.laws.specs.Lists.{flat}
use Rattle.field.specs.Bytes.{bytes_of}
use Rattle.field.proofs.Numbers.{length-bytes, length-written}
use Rattle.writer.proofs.Writing.{Writing, write_none, write_more, write_done}

-- f of each of xs as a word
abbrev pub each_word : (ℕ → ℕ) → List ℕ → List ℕ
each_word f xs = flat (map (bytes_of 4) (map f xs))

pub each_length : (f : ℕ → ℕ) (xs : List ℕ) → length (each_word f xs) ≡ 4 * length xs
each_length f xs = length-written (map f xs) ∙ ap (λ (k : ℕ). 4 * k) (length-map xs f)

each_cons : (f : ℕ → ℕ) (x : ℕ) (xs : List ℕ) → each_word f (x ∷ xs) ≡ bytes_of 4 (f x) ++ each_word f xs
unfolding flat
each_cons f x xs = refl

each_nil : (f : ℕ → ℕ) → each_word f [] ≡ []
unfolding flat
each_nil f = refl

abbrev pub WordsLeft : (ℕ → ℕ) → List ℕ → List ℕ → ℕ → List ℕ → ℕ → Type 0
WordsLeft f xs start at out i = Writing start at (each_word f xs) out (at + 4 * i) (each_word f (drop i xs))

module _ (f : ℕ → ℕ) (xs : List ℕ) {start : List ℕ} {at : ℕ} where
  pub words_none : at + 4 * length xs ≤ length start → WordsLeft f xs start at start 0
  words_none h = rw add-zero (write_none start at (each_word f xs) (each_word f xs) refl (omega (arith, each_length f xs)))

  pub words_more : {out : List ℕ} {i v : ℕ} {next : List ℕ} → WordsLeft f xs start at out i → i < length xs → v ≡ f (get_or xs i 0)
      → next ≡ sets out (at + 4 * i) (bytes_of 4 v) → WordsLeft f xs start at next (i + 1)
  words_more {out} {i} {v} {next} w l e n =
      let x = get_or xs i 0 in
      let b : suc i ≡ i + 1 = omega arith in
      write_more start at (each_word f xs) out (at + 4 * i) (each_word f (drop i xs)) (bytes_of 4 (f x)) (each_word f (drop (i + 1) xs)) next (at + 4 * (i + 1)) w
      (ap (each_word f) (drop-cons xs i 0 l) ∙ each_cons f x (drop (suc i) xs) ∙ ap (λ (z : ℕ). bytes_of 4 (f x) ++ each_word f (drop z xs)) b)
      (n ∙ ap (λ (z : ℕ). sets out (at + 4 * i) (bytes_of 4 z)) e)
      (omega (arith, length-bytes 4 (f x)))

  pub words_done : {out : List ℕ} {i : ℕ} → WordsLeft f xs start at out i → length xs ≤ i → out ≡ sets start at (each_word f xs)
  words_done {out} {i} w h =
      write_done start at (each_word f xs) out (at + 4 * i) (each_word f (drop i xs)) w (ap (each_word f) (drop_of_length-le xs h) ∙ each_nil f)
