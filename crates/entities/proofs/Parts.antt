-- The lowest copies of a part, row by row, on plain values. Assumes nothing.
use Prim.Native.Nat.{ℕ, suc, ◌+◌, ◌-◌, ◌≤◌, ◌<◌}
use native.Mathlib.Numerals.{add-one}
use native.Mathlib.Omega.{arith}
use mathlib.Core.Path.{◌≡◌, refl, sym, ap, ◌∙◌}
use mathlib.Core.Bool.{Bool, true, false, cond}
use mathlib.Core.List.{List, [], ◌∷◌, ◌++◌, map, append-nil, append_assoc}
use lib.ListN.{length, get_or, take, set, length-set, length-map, length-append}
use lib.Seq.{take-suc-set, take-set-le, length-take-le}
use Rattle.std.specs.Int.{from_bool}
use Rattle.laws.specs.Lists.{keep, from, up_to}
use Rattle.laws.proofs.Agree.{length-keep}
use Rattle.laws.proofs.Ranges.{length_up_to}
use Rattle.laws.proofs.Tests.{one_at_most}
use Rattle.paper.specs.Image.{Set}
use Rattle.index.specs.Index.{set_in, max_rows, Indexed}
use Rattle.rows.proofs.Laws.{part_room, part-rows}
use Rattle.entities.specs.LowestCopies.{is_low, low_rows}
use Rattle.entities.specs.Gathering.{PartRoom, PartGathered}

-- those from slot s on
unfoldable pub low_from : Set → List ℕ → ℕ → ℕ → List ℕ
low_from S starts p s = map (λ t. get_or starts p 0 + t) (keep (is_low S p) (from s (length (get_or S p []) - s)))

pub low_few : (S : Set) (starts : List ℕ) (p : ℕ) → length (low_rows S starts p) ≤ length (get_or S p [])
unfolding low_rows
low_few S starts p =
    let rows = up_to (length (get_or S p [])) in
    omega (
      arith,
      length-map (keep (is_low S p) rows) (λ s. get_or starts p 0 + s),
      length-keep (is_low S p) rows,
      length_up_to (length (get_or S p [])),
    )

byte_is : (b : Bool) → from_bool b ≡ cond b 1 0
byte_is true = refl
byte_is false = refl

-- by how much the count grows
pub low_count : (S : Set) (p s : ℕ) {l : Bool} {d : ℕ} → l ≡ is_low S p s → d ≡ from_bool l → d ≡ cond (is_low S p s) 1 0
low_count S p s e f = f ∙ ap from_bool e ∙ byte_is (is_low S p s)

-- the rows of a part that has room
module _ {b offs starts : List ℕ} {n : ℕ} (index : Indexed b offs starts n) {p k : ℕ} {ord : List ℕ} (room : PartRoom (set_in b) p k ord) where
  pub row_count : get_or starts (p + 1) 0 - get_or starts p 0 ≡ length (get_or (set_in b) p [])
  row_count = part-rows index p (omega (arith, room.few, index.count))

  pub rows_few : get_or starts p 0 + length (get_or (set_in b) p []) ≤ max_rows
  rows_few = omega (arith, part_room index p (omega (arith, room.few, index.count)), index.total_few)

-- slot s is looked at next; what stands before k and what is to come are the whole
pub record Going (S : Set) (starts : List ℕ) (p : ℕ) (ord₀ ord : List ℕ) (k₀ s k : ℕ) : Type 0 where
  pub slot : s ≤ length (get_or S p [])
  pub few : k ≤ k₀ + s
  pub rest : take k ord ++ low_from S starts p s ≡ take k₀ ord₀ ++ low_rows S starts p
  pub same : length ord ≡ length ord₀

module _ (S : Set) (starts : List ℕ) (p : ℕ) (ord₀ : List ℕ) (k₀ : ℕ) where
  pub going_none : Going S starts p ord₀ ord₀ k₀ 0 k₀
  unfolding low_from low_rows up_to
  going_none =
      let e : length (get_or S p []) - 0 ≡ length (get_or S p []) = omega arith in
      record {
        slot = omega arith;
        few = omega arith;
        rest = ap (λ (j : ℕ). take k₀ ord₀ ++ map (λ t. get_or starts p 0 + t) (keep (is_low S p) (from 0 j))) e;
        same = refl;
      }

  low_step : (s : ℕ) → s < length (get_or S p []) → low_from S starts p s ≡ cond (is_low S p s) ((get_or starts p 0 + s) ∷ []) [] ++ low_from S starts p (s + 1)
  unfolding low_from from keep
  low_step s h =
      let e : length (get_or S p []) - s ≡ suc (length (get_or S p []) - (s + 1)) = omega arith in
      rw (e, add-one s) (go (is_low S p s) (keep (is_low S p) (from (suc s) (length (get_or S p []) - suc s))))
    where
      go : (b : Bool) (xs : List ℕ) → map (λ t. get_or starts p 0 + t) (cond b (s ∷ xs) xs) ≡ cond b ((get_or starts p 0 + s) ∷ []) [] ++ map (λ t. get_or starts p 0 + t) xs
      go true xs = refl
      go false xs = refl

  take_step : (b : Bool) (ord : List ℕ) (k g : ℕ) → k < length ord → take (k + cond b 1 0) (set ord k g) ≡ take k ord ++ cond b (g ∷ []) []
  take_step true ord k g h = rw (add-one k) (take-suc-set ord k g h)
  take_step false ord k g h = let e : k + 0 ≡ k = omega arith in rw e (take-set-le k ord k g (omega arith) ∙ sym (append-nil (take k ord)))

  pub going_more : (ord : List ℕ) (s k g d : ℕ) → Going S starts p ord₀ ord k₀ s k → s < length (get_or S p []) → k < length ord → g ≡ get_or starts p 0 + s
      → d ≡ cond (is_low S p s) 1 0 → Going S starts p ord₀ (set ord k g) k₀ (s + 1) (k + d)
  going_more ord s k g d now h l is e = record {
    slot = omega arith;
    few = omega (arith, one_at_most (is_low S p s), now.few);
    rest = ap (λ (j : ℕ). take (k + j) (set ord k g) ++ low_from S starts p (s + 1)) e
        ∙ ap (λ (xs : List ℕ). xs ++ low_from S starts p (s + 1)) (take_step (is_low S p s) ord k g l)
        ∙ append_assoc (take k ord) (cond (is_low S p s) (g ∷ []) []) (low_from S starts p (s + 1))
        ∙ ap (λ (x : ℕ). take k ord ++ (cond (is_low S p s) (x ∷ []) [] ++ low_from S starts p (s + 1))) is
        ∙ ap (λ (xs : List ℕ). take k ord ++ xs) (sym (low_step s h)) ∙ now.rest;
    same = length-set ord k g ∙ now.same;
  }

  low_over : (s : ℕ) → length (get_or S p []) ≤ s → low_from S starts p s ≡ []
  unfolding low_from from keep
  low_over s h = let e : length (get_or S p []) - s ≡ 0 = omega arith in rw e refl

  pub going_done : (ord : List ℕ) (s k : ℕ) → Going S starts p ord₀ ord k₀ s k → k₀ + length (get_or S p []) < length ord₀ → length (get_or S p []) ≤ s
      → PartGathered S starts p ord₀ ord k₀ k
  going_done ord s k now room h =
      let e : take k ord ≡ take k₀ ord₀ ++ low_rows S starts p = sym (append-nil (take k ord)) ∙ ap (λ (xs : List ℕ). take k ord ++ xs) (sym (low_over s h)) ∙ now.rest in
      record {
        front = e;
        count = omega (
          arith,
          ap length e,
          now.same,
          now.few,
          now.slot,
          length-take-le k ord (omega (arith, now.same, now.few, now.slot)),
          length-take-le k₀ ord₀ (omega arith),
          length-append (take k₀ ord₀) (low_rows S starts p),
        );
        same = now.same;
      }
