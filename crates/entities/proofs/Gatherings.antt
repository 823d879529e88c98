-- The lowest copies of part after part, on plain values. Assumes nothing.
use Prim.Native.Nat.{ℕ, ◌+◌, ◌≤◌, ◌<◌}
use native.Mathlib.Nat.{not-suc-le-zero, eq-or-lt_of_le}
use native.Mathlib.Omega.{arith}
use mathlib.Core.Path.{◌≡◌, refl, sym, ap, ◌∙◌, subst}
use mathlib.Core.Logic.{⊎_elim}
use mathlib.Core.List.{List, ◌++◌}
use lib.ListN.{length, get_or, take, set, length-set}
use lib.Seq.{get_or-set_same, get_or-set_other}
use Rattle.index.specs.Index.{set_in, max_rows, Indexed}
use Rattle.rows.proofs.Laws.{part_room}
use Rattle.entities.specs.LowestCopies.{low_rows, low_runs}
use Rattle.entities.specs.Gathering.{PartRoom, PartGathered, Gathered}
use Rattle.entities.proofs.Parts.{low_few}
use Rattle.entities.proofs.Fronts.{front, front_none, front-more, front_length, runs_are}

-- the lowest copies of p parts are there, k in all
pub record PartsFilled (b starts ord₀ st₀ ord st : List ℕ) (n p k : ℕ) : Type 0 where
  pub within : p ≤ n
  pub begins : (i : ℕ) → i < p → get_or st i 0 ≡ length (front (low_rows (set_in b) starts) i)
  pub count : k ≡ length (front (low_rows (set_in b) starts) p)
  pub filled : take k ord ≡ front (low_rows (set_in b) starts) p
  pub few : k ≤ get_or starts p 0
  pub small : k ≤ max_rows
  pub same_ord : length ord ≡ length ord₀
  pub same_st : length st ≡ length st₀

module _ {b offs starts : List ℕ} {n : ℕ} (index : Indexed b offs starts n) (ord₀ st₀ : List ℕ) (room : max_rows + 1 ≤ length ord₀) (room-st : 65 ≤ length st₀) where
  pub filled_none : PartsFilled b starts ord₀ st₀ ord₀ st₀ n 0 0
  filled_none = record {
    within = omega arith;
    begins = λ i h. absurd (not-suc-le-zero h);
    count = sym (ap length (front_none (low_rows (set_in b) starts)));
    filled = sym (front_none (low_rows (set_in b) starts));
    few = omega arith;
    small = omega arith;
    same_ord = refl;
    same_st = refl;
  }

  module _ (ord st : List ℕ) (p k : ℕ) (now : PartsFilled b starts ord₀ st₀ ord st n p k) where
    pub filled_room : p < n → PartRoom (set_in b) p k ord
    filled_room h = record {
      few = omega (arith, index.count);
      room = omega (arith, now.few, now.same_ord, index.total_few, part_room index p h);
    }

    -- where the entry at p of st is written, the first p + 1 begin where they should
    begin : (j : ℕ) → j ≡ length (front (low_rows (set_in b) starts) p) → p < length st → (i : ℕ) → i < p + 1
        → get_or (set st p j) i 0 ≡ length (front (low_rows (set_in b) starts) i)
    begin j e l i h =
        ⊎_elim
        (λ (q : i ≡ p). rw q (get_or-set_same st p j 0 l ∙ e))
        (λ (m : i < p). get_or-set_other st p i j 0 (λ q. omega (arith, m, q)) ∙ now.begins i m)
        (eq-or-lt_of_le (omega arith))

    pub filled_more : (ord' : List ℕ) (k' : ℕ) → p < n → PartGathered (set_in b) starts p ord ord' k k' → PartsFilled b starts ord₀ st₀ ord' (set st p k) n (p + 1) k'
    filled_more ord' k' h g =
        let f = low_rows (set_in b) starts in record {
          within = omega arith;
          begins = begin k now.count (omega (arith, now.same_st, index.few));
          count = omega (arith, g.count, now.count, front_length f p);
          filled = g.front ∙ ap (λ (xs : List ℕ). xs ++ f p) now.filled ∙ sym (front-more f p);
          few = omega (arith, g.count, now.few, index.next p h, low_few (set_in b) starts p);
          small = omega (arith, g.count, now.few, low_few (set_in b) starts p, part_room index p h, index.total_few);
          same_ord = g.same ∙ now.same_ord;
          same_st = length-set st p k ∙ now.same_st;
        }

  pub filled_done : (ord st : List ℕ) (p k : ℕ) → PartsFilled b starts ord₀ st₀ ord st n p k → n ≤ p → Gathered (set_in b) starts ord₀ st₀ ord (set st n k) n k
  unfolding low_runs
  filled_done ord st p k now h =
      let e : p ≡ n = omega (arith, now.within) in
      let full : PartsFilled b starts ord₀ st₀ ord st n n k = subst (λ (i : ℕ). PartsFilled b starts ord₀ st₀ ord st n i k) e now in
      let f = low_rows (set_in b) starts in
      let l : n < length st = omega (arith, now.same_st, index.few) in
      let at : (i : ℕ) → i ≤ n → get_or (set st n k) i 0 ≡ length (front f i) = λ i j. begin ord st n k full k full.count l i (omega arith) in
      record {
        runs = runs_are f (set st n k) ord n at (ap (λ (j : ℕ). take j ord) (sym full.count) ∙ full.filled);
        long = omega (arith, l, length-set st n k);
        first = at 0 (omega arith) ∙ ap length (front_none f);
        up = λ i j. omega (arith, at i (omega arith), at (i + 1) (omega arith), front_length f i);
        total = get_or-set_same st n k 0 l;
        few = full.few;
        same_ord = full.same_ord;
        same_st = length-set st n k ∙ full.same_st;
      }
