-- The first entry that breaks a rule, on plain values. Assumes nothing.
use Prim.Native.Nat.{ℕ, zero, suc, ◌≤◌, ◌<◌}
use native.Mathlib.Numerals.{add-one}
use native.Mathlib.Omega.{arith}
use mathlib.Core.Path.{◌≡◌, refl, sym, subst}
use mathlib.Core.Bool.{Bool, true, false}
use lib.Dec.{T}
use mathlib.Core.List.{List}
use Rattle.std.proofs.Common.{Option, None, Some, MatchOption}
use Rattle.laws.proofs.Tests.{T_true, no_T}
use Rattle.laws.specs.Lists.{up_to, first_bad}
use Rattle.paper.specs.Move.{entry_name, all_entries}
use Rattle.moves.specs.Catalog.{Lower}
use Rattle.moves.specs.Entries.{bad_entry, FirstBroken, FirstSwept}
use Rattle.moves.proofs.First.{AtEntry, start, skip, hit, over}

-- what `find` over 0 .. total says
pub first_below : (P : ℕ → Type 0) {n total : ℕ} → total ≡ n → (r : Option ℕ)
    → MatchOption r ((k : ℕ) → 0 ≤ k → k < total → P k) (λ i. (0 ≤ i) × (i < total) × (P i → ⊥) × ((k : ℕ) → 0 ≤ k → k < i → P k)) → FirstBroken P n r
first_below P e None w = λ k h. w k (omega arith) (omega (arith, h, e))
first_below P e (Some i) w = (omega (arith, w.1, e), w.2, λ k h. w.3 k (omega arith) h)

-- what a sweep says, where its test decides P
pub first_by_sweep : (P : ℕ → Type 0) {l keys ord : List ℕ} {count : ℕ} {test : ℕ → ℕ → Bool → Type 0} (r : Option ℕ) → FirstSwept l keys ord count test r
    → ((i j : ℕ) → i < all_entries l → Lower keys ord count (entry_name l i) j → test i j true → P i)
    → ((i j : ℕ) → i < all_entries l → Lower keys ord count (entry_name l i) j → test i j false → P i → ⊥) → FirstBroken P (all_entries l) r
first_by_sweep P None w good bad = λ k h. let s = w.found k h in good k s.0 h s.1 s.2
first_by_sweep P (Some i) w good bad =
    let f = w.found in (f.0, bad i f.1.0 f.0 f.1.1 f.1.2, λ k h. let s = f.2 k h in good k s.0 (omega (arith, h, f.0)) s.1 s.2)

-- the same of another property
pub first_with : (P Q : ℕ → Type 0) (n : ℕ) → ((i : ℕ) → i < n → P i → Q i) → ((i : ℕ) → i < n → Q i → P i) → (r : Option ℕ) → FirstBroken P n r → FirstBroken Q n r
first_with P Q n to back None w = λ i h. to i h (w i h)
first_with P Q n to back (Some i) w = (w.0, λ q. w.1 (back i w.0 q), λ k h. to k (omega (arith, h, w.0)) (w.2 k h))

-- behind entries that pass, what is left gives the answer
walked : (ok : ℕ → Bool) (n i : ℕ) → i ≤ n → ((k : ℕ) → k < i → T (ok k)) → AtEntry ok n i
walked ok n zero h before = start
walked ok n (suc i) h before =
    let at : AtEntry ok n i = walked ok n i (omega (arith, h)) (λ k g. before k (omega (arith, g))) in
    subst (AtEntry ok n) (add-one i) (skip at (omega (arith, h)) (sym (T_true (ok i) (before i (omega arith)))) refl)

-- the first that fails a test is the paper's, and so is none
pub first_is : (ok : ℕ → Bool) (n : ℕ) (r : Option ℕ) → FirstBroken (λ k. T (ok k)) n r → bad_entry r ≡ first_bad ok (up_to n)
first_is ok n None w = over (walked ok n n (omega arith) w) (omega arith)
first_is ok n (Some i) w = hit (walked ok n i (omega (arith, w.0)) w.2) w.0 (sym (no_T (ok i) w.1)) refl
