-- The rows of each part filled with the part's number: on plain values. Assumes nothing.
use Prim.Native.Nat.{ℕ, ◌+◌, ◌-◌, ◌≤◌, ◌<◌}
use native.Mathlib.Nat.{eq-or-lt_of_le}
use native.Mathlib.Omega.{arith}
use mathlib.Core.Path.{◌≡◌, sym, ap, ◌∙◌}
use mathlib.Core.Logic.{⊎_elim}
use mathlib.Core.List.{List}
use lib.ListN.{length, get_or, take, drop, replicate, length-take, length-drop}
use borrow.Rule.Slice.PartMut.{put_mid}
use Rattle.std.proofs.Common.{rules}
use Rattle.std.proofs.lemmas.List.{places}
use Rattle.index.specs.Index.{max_rows, Indexed}
use Rattle.rows.proofs.Laws.{part_room}
use Rattle.places.specs.Sweep.{Stayed}

-- ---- one value

-- v stands in the n places from `first` on, and what stands before them is as it was
pub record RangeFilled (first n v : ℕ) (dest dest' : List ℕ) : Type 0 where
  pub same : length dest' ≡ length dest
  pub here : (g : ℕ) → first ≤ g → g < first + n → get_or dest' g 0 ≡ v
  pub before : (g : ℕ) → g < first → get_or dest' g 0 ≡ get_or dest g 0

module _ (dest : List ℕ) (first n v : ℕ) (room : first + n ≤ length dest) where
  part_length : length (take (first + n - first) (drop first dest)) ≡ n
  part_length = simp (length-take, length-drop) (omega arith)

  filled : RangeFilled first n v dest (put_mid first n dest (replicate n v))
  filled = record {
    same = search (rules, places);
    here = λ g h k. search (rules, places);
    before = λ g h. search (rules, places);
  }

  pub range_filled : (ys : List ℕ) → ys ≡ replicate (length (take (first + n - first) (drop first dest))) v
      → RangeFilled first n v dest (put_mid first (first + n - first) dest ys)
  range_filled ys e =
      let k : first + n - first ≡ n = omega arith in
      rw (e, part_length, k) filled

-- ---- each part its own number

-- the rows of the first p parts have their part
pub record Staying (starts : List ℕ) (n : ℕ) (dest₀ dest : List ℕ) (p : ℕ) : Type 0 where
  pub to : p ≤ n
  pub same : length dest ≡ length dest₀
  pub below : (q : ℕ) → q < p → get_or starts (q + 1) 0 ≤ get_or starts p 0
  pub own : (q g : ℕ) → q < p → get_or starts q 0 ≤ g → g < get_or starts (q + 1) 0 → get_or dest g 0 ≡ q

module _ {b offs starts : List ℕ} {n : ℕ} {dest₀ : List ℕ} (index : Indexed b offs starts n) (room : max_rows + 1 ≤ length dest₀) where
  module _ (dest : List ℕ) (p : ℕ) (inv : Staying starts n dest₀ dest p) (h : p < n) (first count : ℕ) (ef : first ≡ get_or starts p 0 + 0)
      (ec : count ≡ get_or starts (p + 1) 0 - get_or starts p 0) where
    ends : first + count ≡ get_or starts (p + 1) 0
    ends = omega (arith, ef, ec, index.next p h)

    pub staying_room : first + count ≤ length dest
    staying_room = omega (arith, ends, index.next p h, part_room index p h, index.total_few, inv.same)

    pub staying_more : (dest' : List ℕ) → RangeFilled first count p dest dest' → Staying starts n dest₀ dest' (p + 1)
    staying_more dest' f = record {
      to = omega arith;
      same = f.same ∙ inv.same;
      below = λ q l.
          ⊎_elim (λ (e : q ≡ p). omega (arith, ap (λ (k : ℕ). get_or starts (k + 1) 0) e)) (λ (k : q < p). omega (arith, inv.below q k, index.next p h)) (eq-or-lt_of_le (omega arith));
      own = λ q g l a z.
          ⊎_elim
          (λ (e : q ≡ p). f.here g (omega (arith, ef, ap (λ (k : ℕ). get_or starts k 0) e)) (omega (arith, ends, ap (λ (k : ℕ). get_or starts (k + 1) 0) e)) ∙ sym e)
          (λ (k : q < p). f.before g (omega (arith, ef, inv.below q k)) ∙ inv.own q g k a z) (eq-or-lt_of_le (omega arith));
    }

  pub staying_done : (dest : List ℕ) (p : ℕ) → Staying starts n dest₀ dest p → n ≤ p → Stayed starts n dest₀ dest
  staying_done dest p inv h =
      record { same = inv.same; own = λ q g l a z. inv.own q g (omega (arith, inv.to)) a z }
