-- The loop that looks for a name in one part after the other, on plain values. Assumes nothing.
use Prim.Native.Nat.{ℕ, zero, suc, ◌+◌, ◌≤◌, ◌<◌}
use native.Mathlib.Nat.{not-suc-le-zero, le_of_suc-le-suc, zero-lt-suc, lt_of_not-le}
use native.Mathlib.Decide.{dec_le}
use native.Mathlib.Numerals.{add-one}
use native.Mathlib.Omega.{arith}
use mathlib.Core.Path.{◌≡◌, refl, sym, ap, ◌∙◌}
use mathlib.Core.List.{List, [], ◌∷◌, ◌++◌}
use lib.ListN.{length, get_or, drop, drop_of_length-le}
use lib.Seq.{drop-cons}
use lib.Dec.{T}
use borrow.Author.Tests.{eq-eqb, ne_eqb}
use Rattle.laws.specs.Lists.{flat, first_or, some?}
use Rattle.paper.specs.Outcome.{Outcome, refused, accepted, nowhere, must, ◌>>◌}
use Rattle.paper.specs.Image.{Row, Set, no_row, row_at}
use Rattle.paper.specs.Sound.{name_of_row, ordered}
use Rattle.paper.specs.Lookup.{Found, home_of}
use Rattle.index.specs.Index.{row_from, set_in, Indexed, Named}
use Rattle.index.specs.Find.{Hit, Miss}
use Rattle.index.proofs.Answers.{names_ascend, hit-row, miss-below, miss-above}
use Rattle.query.proofs.Accepted.{found_in}

module _ (x : ℕ) where
  -- ---- rows in turn

  named : (r : Row) (rows : List Row) → name_of_row r ≡ x → found_in x (r ∷ rows) ≡ accepted (home_of r)
  unfolding found_in some? first_or must ◌>>◌
  named r rows e = rw (eq-eqb x (name_of_row r) (sym e))

  not_named : (r : Row) (rows : List Row) → (name_of_row r ≡ x → ⊥) → found_in x (r ∷ rows) ≡ found_in x rows
  unfolding found_in some? first_or
  not_named r rows h = rw (ne_eqb x (name_of_row r) (λ e. h (sym e)))

  -- no row of a part has the name
  none_named : (rows rest : List Row) → ((t : ℕ) → t < length rows → name_of_row (get_or rows t no_row) ≡ x → ⊥) → found_in x (rows ++ rest) ≡ found_in x rest
  none_named [] rest h = refl
  none_named (r ∷ rows) rest h = not_named r (rows ++ rest) (h 0 (zero-lt-suc (length rows))) ∙ none_named rows rest (λ t l. h (suc t) (omega arith))

  -- row s is the first that has it
  first_named : (rows rest : List Row) (s : ℕ) → s < length rows → ((t : ℕ) → t < s → name_of_row (get_or rows t no_row) ≡ x → ⊥) → name_of_row (get_or rows s no_row) ≡ x
      → found_in x (rows ++ rest) ≡ accepted (home_of (get_or rows s no_row))
  first_named [] rest s l h e = absurd (not-suc-le-zero l)
  first_named (r ∷ rows) rest zero l h e = named r (rows ++ rest) e
  first_named (r ∷ rows) rest (suc s) l h e =
      not_named r (rows ++ rest) (h 0 (zero-lt-suc s)) ∙ first_named rows rest s (le_of_suc-le-suc l) (λ t m. h (suc t) (omega arith)) e

  -- ---- parts in turn: what is found from part p on is what is found in all

  abbrev pub Left : Set → ℕ → Type 0
  Left S p = found_in x (flat (drop p S)) ≡ found_in x (flat S)

  front : (S : Set) (p : ℕ) → p < length S → flat (drop p S) ≡ get_or S p [] ++ flat (drop (p + 1) S)
  unfolding flat
  front S p h = rw (add-one p, drop-cons S p [] h)

  pub over : (S : Set) (p : ℕ) → length S ≤ p → Left S p → refused 21 nowhere ≡ found_in x (flat S)
  unfolding found_in flat some? must ◌>>◌
  over S p h left = rw (drop_of_length-le S {i = p} h) at left

  module _ {b offs starts : List ℕ} {n : ℕ} (ix : Indexed b offs starts n) {keys : List ℕ} (nm : Named b starts keys) (p : ℕ) (h : p < n) (left : Left (set_in b) p) (s : ℕ) where
    there : p < length (set_in b)
    there = omega (arith, ix.count)

    pub later : Miss keys starts p x s → Left (set_in b) (p + 1)
    unfolding row_at
    later v =
        sym
        (ap (found_in x) (front (set_in b) p there)
        ∙ none_named (get_or (set_in b) p []) (flat (drop (p + 1) (set_in b)))
        (λ t l e.
        elim (dec_le s t) [
          | yes m ↦ omega (arith, miss-above ix p h nm x s v t m l)
          | no m ↦ omega (arith, miss-below ix p h nm x s v t (lt_of_not-le m))
        ]))
        ∙ left

    module _ (order : (t : ℕ) → t < length (get_or (set_in b) p []) → T (ordered (get_or (set_in b) p []) t)) (v : Hit keys starts p x s) where
      found-row : accepted (home_of (row_at (set_in b) p s)) ≡ found_in x (flat (set_in b))
      unfolding row_at
      found-row =
          let w = hit-row ix p h nm x s v in
          sym
          (ap (found_in x) (front (set_in b) p there)
          ∙ first_named (get_or (set_in b) p []) (flat (drop (p + 1) (set_in b))) s w.0
          (λ t l e. omega (arith, names_ascend (get_or (set_in b) p []) order t s l w.0, w.1)) w.1)
          ∙ left

      pub here : {at : ℕ} {o : Outcome Found} → at ≡ get_or offs (get_or starts p 0 + s) 0 → o ≡ accepted (home_of (row_from b at)) → o ≡ found_in x (flat (set_in b))
      here place e =
          e ∙ ap (λ (i : ℕ). accepted (home_of (row_from b i))) place
          ∙ ap (λ (r : Row). accepted (home_of r)) (sym (ix.row p s (hit-row ix p h nm x s v).0)) ∙ found-row
