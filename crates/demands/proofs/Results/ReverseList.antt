-- The reverse of a list: its entries stand as the list's do and name the same objects, each to its place.
-- Assumes nothing.
use Prim.Native.Nat.{ℕ, zero, suc, ◌+◌, ◌*◌, ◌/◌, ◌≤◌, ◌<◌}
use native.Mathlib.Omega.{arith}
use mathlib.Core.Path.{◌≡◌, refl, sym, ap, ap₂, ◌∙◌, subst, fun_ext}
use mathlib.Core.Bool.{Bool, not}
use mathlib.Core.Logic.{◌⊎◌, inl, inr}
use mathlib.Core.List.{List, [], ◌∷◌}
use mathlib.Core.Option
use mathlib.Core.Option.{Option, none, some}
use lib.ListN.{length, get_or, set, length-set}
use lib.Seq.{get_or-set_same, get_or-set_other}
use lib.Dec.{T, T_not, eqb, eqb→eq, ltb, lt→ltb, leb, leb→le}
use lib.Pow.{are_bytes}
use Rattle.laws.specs.Lists.{up_to, first_bad}
use Rattle.field.specs.Bytes.{u8_at, u16_at}
use Rattle.paper.specs.Mesh.{Entity, is_object, holds}
use Rattle.paper.specs.Placement.{Placement}
use Rattle.paper.specs.Move.{entry_name, entry_part, whole_entries, all_entries, ascends, entry_fitting, dest_of, moved}
use Rattle.demands.specs.Reverse.{turned, reverse_of}
use Rattle.laws.proofs.Tests.{and_l, and_r, both, split4, decide, eq-eqb, not_not}
use Rattle.laws.proofs.FirstBad.{bad_lt, bad_fails}
use Rattle.demands.proofs.Results.Accepted.{Listed}

set-bytes : (b : List ℕ) (i v : ℕ) → T (are_bytes b) → v < 256 → T (are_bytes (set b i v))
set-bytes [] i v y h = y
set-bytes (x ∷ b) zero v y h = both (ltb v 256) (are_bytes b) (lt→ltb v 256 h) (and_r (ltb x 256) (are_bytes b) y)
set-bytes (x ∷ b) (suc i) v y h = both (ltb x 256) (are_bytes (set b i v)) (and_l (ltb x 256) (are_bytes b) y) (set-bytes b i v (and_r (ltb x 256) (are_bytes b) y) h)

-- an entry that stands is a whole one
entry_whole : (l : List ℕ) (i : ℕ) → T (entry_fitting l i) → i < whole_entries l
unfolding entry_fitting
entry_whole l i t =
    let w = split4 (leb (8 * i + 8) (length l)) (eqb (u16_at l (8 * i + 6)) 0) (leb (u8_at l (8 * i + 4)) 3) (ascends l i) t in omega (arith, leb→le (8 * i + 8) (length l) w.0)

-- ---- the bytes of the reverse list

module _ (place : Placement) (l : List ℕ) where
  turned-length : (n : ℕ) → length (turned place l n) ≡ length l
  unfolding turned
  turned-length zero = refl
  turned-length (suc n) = length-set (turned place l n) (8 * n + 5) (place (entry_name l n)) ∙ turned-length n

  -- all but the destinations are as they were
  turned_other : (n j : ℕ) → ((i : ℕ) → j ≡ 8 * i + 5 → ⊥) → get_or (turned place l n) j 0 ≡ get_or l j 0
  unfolding turned
  turned_other zero j h = refl
  turned_other (suc n) j h = get_or-set_other (turned place l n) (8 * n + 5) j (place (entry_name l n)) 0 (h n) ∙ turned_other n j h

  -- the destinations are the places
  turned-part : (n i : ℕ) → i < n → n ≤ whole_entries l → entry_part (turned place l n) i ≡ place (entry_name l i)
  unfolding turned
  turned-part zero i h w = absurd (omega arith)
  turned-part (suc n) i h w = go (decide (eqb i n)) (λ g. turned-part n i g (omega arith))
    where
      go : T (eqb i n) ⊎ T (not (eqb i n)) → (i < n → entry_part (turned place l n) i ≡ place (entry_name l i))
          → get_or (set (turned place l n) (8 * n + 5) (place (entry_name l n))) (8 * i + 5) 0 ≡ place (entry_name l i)
      go (inl t) rest =
          subst (λ (j : ℕ). get_or (set (turned place l n) (8 * n + 5) (place (entry_name l n))) (8 * j + 5) 0 ≡ place (entry_name l j)) (sym (eqb→eq i n t))
          (get_or-set_same (turned place l n) (8 * n + 5) (place (entry_name l n)) 0 (omega (arith, turned-length n)))
      go (inr t) rest =
          let ne : i ≡ n → ⊥ = λ e. T_not (eqb i n) t (eq-eqb i n e) in
          get_or-set_other (turned place l n) (8 * n + 5) (8 * i + 5) (place (entry_name l n)) 0 (λ e. ne (omega arith)) ∙ rest (omega arith)

  reverse-length : length (reverse_of place l) ≡ length l
  unfolding reverse_of
  reverse-length = turned-length (whole_entries l)

  reverse_other : (j : ℕ) → ((i : ℕ) → j ≡ 8 * i + 5 → ⊥) → get_or (reverse_of place l) j 0 ≡ get_or l j 0
  unfolding reverse_of
  reverse_other j h = turned_other (whole_entries l) j h

  reverse-part : (i : ℕ) → i < whole_entries l → entry_part (reverse_of place l) i ≡ place (entry_name l i)
  unfolding reverse_of
  reverse-part i h = turned-part (whole_entries l) i h (omega arith)

  reverse-name : (i : ℕ) → entry_name (reverse_of place l) i ≡ entry_name l i
  reverse-name i =
      let e₀ = reverse_other (8 * i) (λ k e. omega (arith, e)) in
      let e₁ = reverse_other (8 * i + 1) (λ k e. omega (arith, e)) in
      let e₂ = reverse_other (8 * i + 2) (λ k e. omega (arith, e)) in
      let e₃ = reverse_other (8 * i + 2 + 1) (λ k e. omega (arith, e)) in
      let e₄ = reverse_other (8 * i + 4) (λ k e. omega (arith, e)) in
      cc

  -- the entries stand as they stood
  reverse-ascends : (i : ℕ) → ascends (reverse_of place l) i ≡ ascends l i
  unfolding ascends
  reverse-ascends zero = refl
  reverse-ascends (suc i) = ap₂ ltb (reverse-name i) (reverse-name (suc i))

  reverse_fits : (i : ℕ) → entry_fitting (reverse_of place l) i ≡ entry_fitting l i
  unfolding entry_fitting
  reverse_fits i =
      let e₄ = reverse_other (8 * i + 4) (λ k e. omega (arith, e)) in
      let e₆ = reverse_other (8 * i + 6) (λ k e. omega (arith, e)) in
      let e₇ = reverse_other (8 * i + 6 + 1) (λ k e. omega (arith, e)) in
      cc (reverse-length, reverse-ascends i)

  -- ---- what it names

  -- an object that the list names goes back to its place, and no other is named
  reverse_dest : (k : ℕ) → dest_of (reverse_of place l) k ≡ elim (dest_of l k) [ none ↦ none | some d ↦ some (place k) ]
  unfolding dest_of
  reverse_dest k =
      ap₂ (λ (f : ℕ → Bool) (n : ℕ). elim (first_bad f (up_to n)) [ none ↦ none | some i ↦ some (entry_part (reverse_of place l) i) ])
      (fun_ext (λ i. ap (λ (z : ℕ). not (eqb z k)) (reverse-name i))) (ap (λ (n : ℕ). n / 8) reverse-length)
      ∙ go (first_bad other (up_to (whole_entries l))) refl
    where
      other : ℕ → Bool
      other i = not (eqb (entry_name l i) k)

      go : (o : Option ℕ) → first_bad other (up_to (whole_entries l)) ≡ o
          → ◌≡◌ {A = Option ℕ} (elim o [ none ↦ none | some i ↦ some (entry_part (reverse_of place l) i) ])
          (elim (elim o as (λ _. Option ℕ) [ none ↦ none | some i ↦ some (entry_part l i) ]) [ none ↦ none | some d ↦ some (place k) ])
      go none e = refl
      go (some i) e =
          let named = eqb→eq (entry_name l i) k (not_not (eqb (entry_name l i) k) (bad_fails other (whole_entries l) i e)) in
          ap some (reverse-part i (bad_lt other (whole_entries l) i e) ∙ ap place named)

  pub moved_back : moved (reverse_of place l) (moved l place) ≡ place
  unfolding moved
  moved_back = fun_ext (λ k. ap (λ (o : Option ℕ). Option.get_or o (Option.get_or (dest_of l k) (place k))) (reverse_dest k) ∙ go (dest_of l k) (place k))
    where
      go : (o : Option ℕ) (q : ℕ) → Option.get_or (elim o [ none ↦ none | some d ↦ some q ]) (Option.get_or o q) ≡ q
      go none q = refl
      go (some d) q = refl

  -- ---- that it is accepted where the list is

  pub reverse_listed : (n : ℕ) (es : List Entity) → Listed n es l → ((k : ℕ) → T (holds es k) → place k < n) → Listed n es (reverse_of place l)
  reverse_listed n es a h =
      record {
        fits = λ i g. subst T (sym (reverse_fits i)) (a.fits i (as_many i g));
        dests = λ i g. subst (λ (q : ℕ). T (ltb q n)) (sym (reverse-part i (whole i (as_many i g)))) (lt→ltb (place (entry_name l i)) n (h (entry_name l i) (a.there i (as_many i g))));
        there = λ i g. subst (λ (k : ℕ). T (holds es k)) (sym (reverse-name i)) (a.there i (as_many i g));
        object = λ i g. subst (λ (k : ℕ). T (is_object es k)) (sym (reverse-name i)) (a.object i (as_many i g));
      }
    where
      as_many : (i : ℕ) → i < all_entries (reverse_of place l) → i < all_entries l
      as_many i g = omega (arith, reverse-length)

      whole : (i : ℕ) → i < all_entries l → i < whole_entries l
      whole i g = entry_whole l i (a.fits i g)

  -- and of bytes where the list and the places are
  turned-bytes : T (are_bytes l) → ((i : ℕ) → i < whole_entries l → place (entry_name l i) < 256) → (n : ℕ) → n ≤ whole_entries l → T (are_bytes (turned place l n))
  unfolding turned
  turned-bytes y h zero w = y
  turned-bytes y h (suc n) w = set-bytes (turned place l n) (8 * n + 5) (place (entry_name l n)) (turned-bytes y h n (omega arith)) (h n w)

  pub reverse-bytes : T (are_bytes l) → ((i : ℕ) → i < whole_entries l → place (entry_name l i) < 256) → T (are_bytes (reverse_of place l))
  unfolding reverse_of
  reverse-bytes y h = turned-bytes y h (whole_entries l) (omega arith)
