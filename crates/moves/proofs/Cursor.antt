-- A cursor that goes up among entities whose names ascend, as the entries' names do: on plain values. Assumes nothing.
use Prim.Native.Nat.{ℕ, ◌+◌, ◌≤◌, ◌<◌}
use native.Mathlib.Nat.{eq-or-lt_of_le, lt_trans}
use native.Mathlib.Omega.{arith}
use mathlib.Core.Path.{◌≡◌}
use mathlib.Core.Bool.{Bool, true, ◌&&◌}
use mathlib.Core.Logic.{⊎_elim}
use mathlib.Core.List.{List}
use borrow.Author.Count.{below_more}
use lib.ListN.{get_or}
use lib.Dec.{T, ltb, eqb, ltb→lt, lt→ltb, eqb→eq}
use Rattle.laws.proofs.Tests.{both, split2, eq-eqb}
use Rattle.paper.specs.Move.{entry_name, all_entries}
use Rattle.merge.specs.Runs.{key_in}
use Rattle.moves.specs.Catalog.{Listing, Present, Uncovered, Behind, Lower}
use Rattle.moves.specs.Entries.{Ascending, Says}

-- ---- one name is sought

pub behind_none : {keys ord : List ℕ} {count x : ℕ} → Behind keys ord count x 0
behind_none = record { to = omega arith; below = λ j g. absurd (omega arith) }

module _ {keys ord : List ℕ} {count x j : ℕ} (b : Behind keys ord count x j) where
  -- what is below a name is below a higher one
  pub still_behind : {y : ℕ} → x < y → Behind keys ord count y j
  still_behind h = record { to = b.to; below = λ k g. lt_trans (b.below k g) h }

module _ {keys ord : List ℕ} {count x j : ℕ} (listing : Listing keys ord count) (v : Lower keys ord count x j) where
  -- the place of a name is its lower bound
  pub place_is : (k : ℕ) → k < count → key_in keys (get_or ord k 0) ≡ x → j ≡ k
  place_is k h e =
      let g : j ≤ k = let f : k < j → ⊥ = λ q. omega (arith, v.behind.below k q, e) in omega (arith, f) in
      ⊎_elim (λ (z : j ≡ k). z) (λ (q : j < k). absurd (omega (arith, listing.up j k q h, v.above (omega arith), e))) (eq-or-lt_of_le g)

  pub found : Present keys ord count x → (j < count) × (key_in keys (get_or ord j 0) ≡ x)
  found w = let e : j ≡ w.0 = place_is w.0 w.1 w.2 in (rw e w.1, rw e w.2)

-- so the name is there exactly where it is the one at its lower bound
module _ {keys ord : List ℕ} {count x j : ℕ} (listing : Listing keys ord count) (v : Lower keys ord count x j) where
  pub present_at : T (ltb j count && eqb (key_in keys (get_or ord j 0)) x) → Present keys ord count x
  present_at t = let w = split2 (ltb j count) (eqb (key_in keys (get_or ord j 0)) x) t in (j, ltb→lt j count w.0, eqb→eq (key_in keys (get_or ord j 0)) x w.1)

  pub at_present : Present keys ord count x → T (ltb j count && eqb (key_in keys (get_or ord j 0)) x)
  at_present p = let w = found listing v p in both (ltb j count) (eqb (key_in keys (get_or ord j 0)) x) (lt→ltb j count w.0) (eq-eqb (key_in keys (get_or ord j 0)) x w.1)

-- and whether its row is covered is told there
pub uncovered_at : (covered : List ℕ) {keys ord : List ℕ} {count x j : ℕ} → Listing keys ord count → Lower keys ord count x j → Uncovered keys ord covered count x
    → get_or covered (get_or ord j 0) 0 ≡ 0
uncovered_at covered listing v p = rw (place_is listing v p.0 p.1 p.2) p.3

-- ---- from entry to entry

-- the test passes each entry before i, and the cursor has passed nothing that entry i or a later one could name
pub record Sweeping (l keys ord : List ℕ) (count : ℕ) (test : ℕ → ℕ → Bool → Type 0) (from i : ℕ) : Type 0 where
  pub passed : (k : ℕ) → k < i → Says l keys ord count test k true
  pub behind : i < all_entries l → Behind keys ord count (entry_name l i) from

module _ {l keys ord : List ℕ} {count : ℕ} {test : ℕ → ℕ → Bool → Type 0} where
  pub begin : Sweeping l keys ord count test 0 0
  begin = record { passed = λ k h. absurd (omega arith); behind = λ h. behind_none }

  pub next : {from place i : ℕ} → Ascending l → Sweeping l keys ord count test from i → Lower keys ord count (entry_name l i) place → test i place true
      → Sweeping l keys ord count test place (i + 1)
  next {place = j} {i = i} list s v t = record {
    passed = below_more (λ k. Says l keys ord count test k true) i s.passed (j, v, t);
    behind = λ h. still_behind v.behind (list.up i h);
  }
