-- The rows of a part and the parts of a set, marked one after the other. Assumes nothing.
use Prim.Native.Nat.{ℕ, zero, suc, ◌+◌, ◌-◌, ◌≤◌, ◌<◌}
use native.Mathlib.Numerals.{add-one}
use native.Mathlib.Omega.{arith}
use mathlib.Core.Path.{◌≡◌, refl, sym, ap, ◌∙◌, subst}
use mathlib.Core.Bool.{Bool, not, ◌||◌, or_assoc, or-false}
use mathlib.Core.Logic.{◌⊎◌, inl, inr}
use mathlib.Core.List.{List, []}
use lib.ListN.{length, get_or}
use lib.Dec.{T, ltb, ltb→lt, nltb→le}
use Rattle.laws.specs.Lists.{some?, from, up_to}
use Rattle.laws.proofs.Tests.{decide}
use Rattle.part_set.specs.Masks.{has}
use Rattle.part_set.proofs.OnePart.{has_none}
use Rattle.index.specs.Index.{set_in}
use Rattle.rows.proofs.Laws.{part-rows, part_there}
use Rattle.marks.specs.Closures.{object_marks, part_marks, Marked, AllMarked, Closed, Blank, Placed}
use Rattle.marks.proofs.Words.{mark_none, mark_same, mark_then}
use Rattle.marks.proofs.Objects.{object_closed}

some_from : (f : ℕ → Bool) (i k : ℕ) → some? f (from i (suc k)) ≡ (some? f (from i k) || f (i + k))
unfolding some? from
some_from f i zero = let e : i + 0 ≡ i = omega arith in or-false (f i) ∙ ap f (sym e)
some_from f i (suc k) =
    let e : suc i + k ≡ i + suc k = omega arith in
    ap (λ (x : Bool). f i || x) (some_from f (suc i) k ∙ ap (λ (j : ℕ). some? f (from (suc i) k) || f j) e)
    ∙ sym (or_assoc (f i) (some? f (from (suc i) k)) (f (i + suc k)))

some_up : (f : ℕ → Bool) (k : ℕ) → some? f (up_to (k + 1)) ≡ (some? f (up_to k) || f k)
unfolding up_to
some_up f k =
    let e : 0 + k ≡ k = omega arith in
    ap (λ (j : ℕ). some? f (from 0 j)) (add-one k) ∙ some_from f 0 k ∙ ap (λ (j : ℕ). some? f (from 0 k) || f j) e

-- a table that is as long is as good
pub placed_again : {b offs starts covered dest w : List ℕ} → Placed b offs starts covered dest w → (w' : List ℕ) → length w' ≡ length w → Placed b offs starts covered dest w'
placed_again pl w' e = record {
  readable = pl.readable;
  room_covered = pl.room_covered;
  room_dest = pl.room_dest;
  room = omega (arith, pl.room, e);
  parts = pl.parts;
}

-- ---- the rows of a part

-- the closures of the objects among the first s rows are marked
pub record PartInv (b starts covered dest : List ℕ) (p : ℕ) (w₀ w : List ℕ) (s : ℕ) : Type 0 where
  pub few : s ≤ length (get_or (set_in b) p [])
  pub marks : Marked b starts p (λ t r. some? (λ o. object_marks b starts covered dest p o t r) (up_to s)) w₀ w
  pub closed : Closed b starts p w

pub part_start : (b starts covered dest : List ℕ) (p : ℕ) (w₀ : List ℕ) → Closed b starts p w₀ → PartInv b starts covered dest p w₀ w₀ 0
unfolding some? up_to from
part_start b starts covered dest p w₀ c = record { few = omega arith; marks = mark_none w₀; closed = c }

module _ {b offs starts covered dest w₀ : List ℕ} (pl : Placed b offs starts covered dest w₀) (p : ℕ) (hp : p < length (set_in b)) where
  module _ (count : ℕ) (ec : count ≡ get_or starts (p + 1) 0 - get_or starts p 0) where
    is_count : count ≡ length (get_or (set_in b) p [])
    is_count = ec ∙ part-rows pl.readable.index p hp

    pub part-here : (s : ℕ) → s < count → s < length (get_or (set_in b) p [])
    part-here s h = omega (arith, is_count)

    pub part_turn : (s : ℕ) (w w' : List ℕ) → s < count → PartInv b starts covered dest p w₀ w s → Marked b starts p (object_marks b starts covered dest p s) w w'
        → PartInv b starts covered dest p w₀ w' (s + 1)
    part_turn s w w' h inv m = record {
      few = omega (arith, is_count);
      marks = mark_same (λ t r. sym (some_up (λ o. object_marks b starts covered dest p o t r) s)) (mark_then inv.marks m);
      closed = object_closed pl p s (part-here s h) inv.closed m;
    }

    pub part_end : (s : ℕ) (w : List ℕ) → count ≤ s → PartInv b starts covered dest p w₀ w s → Marked b starts p (part_marks b starts covered dest p) w₀ w
    unfolding part_marks
    part_end s w h inv =
        let e : s ≡ length (get_or (set_in b) p []) = omega (arith, is_count, inv.few) in
        mark_same (λ t r. ap (λ (k : ℕ). some? (λ o. object_marks b starts covered dest p o t r) (up_to k)) e) inv.marks

-- ---- the parts of a set

-- the first p parts are marked, and no word behind them
pub record AllInv (b starts covered dest w₀ w : List ℕ) (p : ℕ) : Type 0 where
  pub few : p ≤ length (set_in b)
  pub same : length w ≡ length w₀
  pub below : (q : ℕ) → q < p → get_or starts q 0 + length (get_or (set_in b) q []) ≤ get_or starts p 0
  pub done : (q t r : ℕ) → q < p → t < length (get_or (set_in b) q [])
      → has (get_or w (get_or starts q 0 + t) 0) r ≡ (has (get_or w₀ (get_or starts q 0 + t) 0) r || part_marks b starts covered dest q t r)
  pub left : (g : ℕ) → get_or starts p 0 ≤ g → get_or w g 0 ≡ get_or w₀ g 0

pub all_start : (b starts covered dest w₀ : List ℕ) → AllInv b starts covered dest w₀ w₀ 0
all_start b starts covered dest w₀ = record {
  few = omega arith;
  same = refl;
  below = λ q h. absurd (omega (arith, h));
  done = λ q t r h l. absurd (omega (arith, h));
  left = λ g h. refl;
}

module _ {b offs starts covered dest w₀ : List ℕ} (pl : Placed b offs starts covered dest w₀) where
  -- no row of part p has a bit yet
  pub all_closed : Blank b starts w₀ → (p : ℕ) (w : List ℕ) → AllInv b starts covered dest w₀ w p → Closed b starts p w
  all_closed blank p w inv t u r l a i =
      let z : get_or w (get_or starts p 0 + t) 0 ≡ 0 = inv.left (get_or starts p 0 + t) (omega arith) ∙ blank p t l in
      absurd (subst T (ap (λ (x : ℕ). has x r) z ∙ has_none r) a)

  pub all_turn : (p : ℕ) (w w' : List ℕ) → p < length (set_in b) → AllInv b starts covered dest w₀ w p → Marked b starts p (part_marks b starts covered dest p) w w'
      → AllInv b starts covered dest w₀ w' (p + 1)
  all_turn p w w' h inv m = record {
    few = omega arith;
    same = m.same ∙ inv.same;
    below = λ q l. go-below q l (decide (ltb q p));
    done = λ q t r l k. go-done q t r l k (decide (ltb q p));
    left = λ g l. m.behind g (omega (arith, next)) ∙ inv.left g (omega (arith, next));
  }
    where
      next : get_or starts (p + 1) 0 ≡ get_or starts p 0 + length (get_or (set_in b) p [])
      next = pl.readable.index.next p h

      is : (q : ℕ) → q < p + 1 → T (not (ltb q p)) → q ≡ p
      is q l t = omega (arith, nltb→le q p t)

      go-below : (q : ℕ) → q < p + 1 → T (ltb q p) ⊎ T (not (ltb q p)) → get_or starts q 0 + length (get_or (set_in b) q []) ≤ get_or starts (p + 1) 0
      go-below q l (inl t) = omega (arith, next, inv.below q (ltb→lt q p t))
      go-below q l (inr t) = rw (is q l t) (omega (arith, next))

      go-done : (q t r : ℕ) → q < p + 1 → t < length (get_or (set_in b) q []) → T (ltb q p) ⊎ T (not (ltb q p))
          → has (get_or w' (get_or starts q 0 + t) 0) r ≡ (has (get_or w₀ (get_or starts q 0 + t) 0) r || part_marks b starts covered dest q t r)
      go-done q t r l k (inl z) =
          ap (λ (x : ℕ). has x r) (m.before (get_or starts q 0 + t) (omega (arith, inv.below q (ltb→lt q p z)))) ∙ inv.done q t r (ltb→lt q p z) k
      go-done q t r l k (inr z) = at_last q (is q l z) t r k
        where
          at_last : (q : ℕ) → q ≡ p → (t r : ℕ) → t < length (get_or (set_in b) q [])
              → has (get_or w' (get_or starts q 0 + t) 0) r ≡ (has (get_or w₀ (get_or starts q 0 + t) 0) r || part_marks b starts covered dest q t r)
          at_last q e t r k =
              rw e
              (m.bit t r (rw e at k) ∙ ap (λ (x : ℕ). has x r || part_marks b starts covered dest p t r) (inv.left (get_or starts p 0 + t) (omega arith)))

  pub all_end : Blank b starts w₀ → (p : ℕ) (w : List ℕ) → length (set_in b) ≤ p → AllInv b starts covered dest w₀ w p → AllMarked b starts covered dest w₀ w
  all_end blank p w h inv =
      let e : p ≡ length (set_in b) = omega (arith, inv.few) in
      record {
        same = inv.same;
        bit = λ q t r l. inv.done q t r (omega (arith, e, part_there pl.readable.index q t l)) l
            ∙ ap (λ (x : ℕ). has x r || part_marks b starts covered dest q t r) (blank q t l)
            ∙ ap (λ (x : Bool). x || part_marks b starts covered dest q t r) (has_none r);
        behind = λ g l. inv.left g (rw e l);
      }
