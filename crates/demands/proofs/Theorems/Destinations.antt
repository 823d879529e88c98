-- What a list does to a placement: an object that an entry names goes to that entry's part, any other stays.
-- Assumes nothing.
use Prim.Native.Nat.{ℕ, zero, suc, ◌+◌, ◌*◌, ◌<◌}
use native.Mathlib.Nat.{not-suc-le-zero}
use native.Mathlib.Omega.{arith}
use mathlib.Core.Path.{◌≡◌, refl, sym, ap, ap₂, ◌∙◌, subst}
use mathlib.Core.Bool.{Bool, not}
use mathlib.Core.Logic.{◌⊎◌, inl, inr}
use mathlib.Core.List.{List, [], ◌∷◌, map}
use mathlib.Core.Option
use mathlib.Core.Option.{Option, none, some}
use lib.ListN.{length, get_or, drop}
use lib.Dec.{T, ltb, leb, eqb, leb→le, ltb→lt, nltb→le, eqb→eq, T_not}
use Rattle.laws.specs.Lists.{every, up_to, first_bad}
use Rattle.field.specs.Bytes.{u8_at, u16_at}
use Rattle.paper.specs.Mesh.{Entity, name}
use Rattle.paper.specs.Placement.{Placement}
use Rattle.paper.specs.Move.{entry_name, entry_part, whole_entries, all_entries, ascends, entry_fitting, dest_of, moved}
use Rattle.laws.proofs.Tests.{and_l, and_r, both, split4, eq-eqb, decide, not_not}
use Rattle.laws.proofs.FirstBad.{none_bad, bad_lt, bad_fails}

-- `moved` looks at a placement only at the name that it is asked for
pub moved_same : (l : List ℕ) (p q : Placement) (os : List Entity) → map (λ e. p (name e)) os ≡ map (λ e. q (name e)) os
    → map (λ e. moved l p (name e)) os ≡ map (λ e. moved l q (name e)) os
unfolding moved
moved_same l p q [] h = refl
moved_same l p q (e ∷ os) h =
    ap₂ {C = List ℕ} (λ (x : ℕ) (xs : List ℕ). Option.get_or (dest_of l (name e)) x ∷ xs) (ap (λ (xs : List ℕ). get_or xs 0 0) h) (moved_same l p q os (ap (drop 1) h))

-- ---- destinations that are parts

-- destinations that name parts: what each object's part becomes names one
module _ (n : ℕ) (l : List ℕ) (dests : (i : ℕ) → i < all_entries l → T (ltb (entry_part l i) n)) where
  dest_fits : (k q : ℕ) → T (ltb q n) → T (ltb (Option.get_or (dest_of l k) q) n)
  unfolding dest_of
  dest_fits k q h = go (first_bad (λ i. not (eqb (entry_name l i) k)) (up_to (whole_entries l))) refl
    where
      go : (o : Option ℕ) → first_bad (λ i. not (eqb (entry_name l i) k)) (up_to (whole_entries l)) ≡ o
          → T (ltb (Option.get_or (elim o [ none ↦ none | some i ↦ some (entry_part l i) ]) q) n)
      go none e = h
      go (some i) e = dests i (omega (arith, bad_lt (λ i. not (eqb (entry_name l i) k)) (whole_entries l) i e))

  pub moved_fits : (place : Placement) (os : List Entity) → T (every (λ q. ltb q n) (map (λ e. place (name e)) os)) → T (every (λ q. ltb q n) (map (λ e. moved l place (name e)) os))
  unfolding moved every
  moved_fits place [] h = tt
  moved_fits place (e ∷ os) h =
      let a = ltb (place (name e)) n in
      let rest = every (λ q. ltb q n) (map (λ e. place (name e)) os) in
      both (ltb (moved l place (name e)) n) (every (λ q. ltb q n) (map (λ e. moved l place (name e)) os))
      (dest_fits (name e) (place (name e)) (and_l a rest h)) (moved_fits place os (and_r a rest h))

-- ---- entries in order

module _ (l : List ℕ) (fits : (i : ℕ) → i < all_entries l → T (entry_fitting l i)) where
  -- each entry is whole, and comes after the one before it
  entry_whole : (i : ℕ) → i < all_entries l → i < whole_entries l
  unfolding entry_fitting
  entry_whole i h =
      let s = split4 (leb (8 * i + 8) (length l)) (eqb (u16_at l (8 * i + 6)) 0) (leb (u8_at l (8 * i + 4)) 3) (ascends l i) (fits i h) in
      omega (arith, leb→le (8 * i + 8) (length l) s.0)

  next_up : (i : ℕ) → suc i < all_entries l → entry_name l i < entry_name l (suc i)
  unfolding entry_fitting ascends
  next_up i h =
      let s = split4 (leb (8 * suc i + 8) (length l)) (eqb (u16_at l (8 * suc i + 6)) 0) (leb (u8_at l (8 * suc i + 4)) 3) (ascends l (suc i)) (fits (suc i) h) in
      ltb→lt (entry_name l i) (entry_name l (suc i)) s.3

  names_up : (i j : ℕ) → i < j → j < all_entries l → entry_name l i < entry_name l j
  names_up i zero h g = absurd (not-suc-le-zero h)
  names_up i (suc j) h g = go (decide (ltb i j)) (names_up i j)
    where
      go : T (ltb i j) ⊎ T (not (ltb i j)) → (i < j → j < all_entries l → entry_name l i < entry_name l j) → entry_name l i < entry_name l (suc j)
      go (inl t) before = omega (arith, before (ltb→lt i j t) (omega arith), next_up j g)
      go (inr t) before = let e : i ≡ j = omega (arith, nltb→le i j t) in subst (λ (z : ℕ). entry_name l z < entry_name l (suc j)) (sym e) (next_up j g)

  -- so no two entries name one entity
  named_once : (i j : ℕ) → i < all_entries l → j < all_entries l → entry_name l i ≡ entry_name l j → i ≡ j
  named_once i j hi hj e = go (decide (ltb i j)) (decide (ltb j i))
    where
      go : T (ltb i j) ⊎ T (not (ltb i j)) → T (ltb j i) ⊎ T (not (ltb j i)) → i ≡ j
      go (inl s) t = absurd (omega (arith, names_up i j (ltb→lt i j s) hj))
      go (inr s) (inl t) = absurd (omega (arith, names_up j i (ltb→lt j i t) hi))
      go (inr s) (inr t) = omega (arith, nltb→le i j s, nltb→le j i t)

  -- ---- where an object goes

  pub moved_listed : (place : Placement) (k i : ℕ) → i < all_entries l → entry_name l i ≡ k → moved l place k ≡ entry_part l i
  unfolding moved dest_of
  moved_listed place k i h e = go (first_bad other (up_to (whole_entries l))) refl
    where
      other : ℕ → Bool
      other j = not (eqb (entry_name l j) k)

      go : (o : Option ℕ) → first_bad other (up_to (whole_entries l)) ≡ o
          → Option.get_or (elim o [ none ↦ none | some j ↦ some (entry_part l j) ]) (place k) ≡ entry_part l i
      go none f = absurd (T_not (eqb (entry_name l i) k) (none_bad other (whole_entries l) f i (entry_whole i h)) (eq-eqb (entry_name l i) k e))
      go (some j) f =
          let hj : j < all_entries l = omega (arith, bad_lt other (whole_entries l) j f) in
          let ej : entry_name l j ≡ k = eqb→eq (entry_name l j) k (not_not (eqb (entry_name l j) k) (bad_fails other (whole_entries l) j f)) in
          ap (entry_part l) (named_once j i hj h (ej ∙ sym e))

-- what no entry names stays
pub moved_unlisted : (l : List ℕ) (place : Placement) (k : ℕ) → ((i : ℕ) → i < all_entries l → entry_name l i ≡ k → ⊥) → moved l place k ≡ place k
unfolding moved dest_of
moved_unlisted l place k free = go (first_bad other (up_to (whole_entries l))) refl
  where
    other : ℕ → Bool
    other j = not (eqb (entry_name l j) k)

    go : (o : Option ℕ) → first_bad other (up_to (whole_entries l)) ≡ o → Option.get_or (elim o [ none ↦ none | some j ↦ some (entry_part l j) ]) (place k) ≡ place k
    go none f = refl
    go (some j) f =
        absurd (free j (omega (arith, bad_lt other (whole_entries l) j f)) (eqb→eq (entry_name l j) k (not_not (eqb (entry_name l j) k) (bad_fails other (whole_entries l) j f))))
