-- The rows of a part and the parts of a set, marked one after the other. Assumes nothing.
use Prim.Native.Nat.{ℕ, suc, ◌+◌, ◌-◌, ◌≤◌, ◌<◌}
use native.Mathlib.Numerals.{add-one}
use native.Mathlib.Omega.{arith}
use mathlib.Core.Path.{◌≡◌, sym, ap, ◌∙◌, subst}
use mathlib.Core.Bool.{Bool, false, not, ◌&&◌, ◌||◌, cond}
use mathlib.Core.Logic.{◌⊎◌, inl, inr}
use mathlib.Core.List.{List, [], map}
use lib.ListN.{length, get_or, take}
use lib.Dec.{T, eqb, ltb, ltb→lt, nltb→le}
use Rattle.laws.specs.Lists.{In, every, some?, pairwise, member}
use Rattle.laws.proofs.Tests.{and_l, decide, iff_eq}
use Rattle.laws.proofs.Members.{every_in, some_in, in_get_or, member_in}
use Rattle.paper.specs.Image.{Row, Set, no_row, row_at}
use Rattle.paper.specs.Mesh.{ent_of, shape_of, simplex}
use Rattle.paper.specs.Sound.{slots_stand, boundary_stands}
use Rattle.index.specs.Index.{set_in, row_from, Indexed}
use Rattle.paper.specs.Sound.{judged}
use Rattle.demands.proofs.Sound.Rows.{fields_of}
use Rattle.residence.specs.Tables.{slot_covered}
use Rattle.residence.specs.Marks.{Marked, slots_named, RowStands, Standing, Blank}
use Rattle.rows.proofs.Laws.{part-rows, part_there, row_there, offset_there}
use Rattle.residence.proofs.covered.Marks.{some_take, mark_none, mark_same, mark_then}

-- ---- what rules 7 and 9 say of a row

pub row_slots_stand : (rows : List Row) (r : Row) → T (boundary_stands rows r) → T (slots_stand rows r)
unfolding boundary_stands
row_slots_stand rows r t = and_l (slots_stand rows r) (simplex (map (ent_of rows) rows) r.dim r.number (shape_of rows r.dim r.body)) t

-- what it names is a row of its part, of the dimension below
pub slot_stands : (rows : List Row) (r : Row) → T (slots_stand rows r) → (f : ℕ) → In f (slots_named r) → T (ltb f (length rows) && eqb (suc (get_or rows f no_row).dim) r.dim)
unfolding slots_stand
slot_stands rows r t f i =
    let ok : ℕ → Bool = λ f. ltb f (length rows) && eqb (suc (get_or rows f no_row).dim) r.dim in
    every_in ok (slots_named r) (and_l (every ok (slots_named r)) (pairwise ltb (slots_named r)) t) f i

slot_inside : (rows : List Row) (r : Row) → T (slots_stand rows r) → (f : ℕ) → In f (slots_named r) → f < length rows
slot_inside rows r t f i =
    ltb→lt f (length rows) (and_l (ltb f (length rows)) (eqb (suc (get_or rows f no_row).dim) r.dim) (slot_stands rows r t f i))

-- no slot behind the rows of a part is named
none_behind : (rows : List Row) → ((r : Row) → In r rows → T (slots_stand rows r)) → (s : ℕ) → length rows ≤ s → slot_covered rows s ≡ false
unfolding slot_covered
none_behind rows all s h =
    iff_eq (some? (λ r. member s (slots_named r)) rows) false
    (λ t.
    let w = some_in (λ r. member s (slots_named r)) rows t in
    let l = slot_inside rows w.0 (all w.0 w.1) s (member_in s (slots_named w.0) w.2) in
    omega arith)
    (λ t. absurd t)

-- ---- what the readers of a row and of a part want

module _ {b offs starts : List ℕ} {n : ℕ} (index : Indexed b offs starts n) where
  pub row_asked : (p s : ℕ) → s < length (get_or (set_in b) p []) → (p < length starts) × (get_or starts p 0 + s < length offs)
  row_asked p s h =
      (omega (arith, part_there index p s h, index.few, index.starts_room), omega (arith, row_there index p s h, index.offs_room))

  pub row_read : (p s at : ℕ) → s < length (get_or (set_in b) p []) → at ≡ get_or offs (get_or starts p 0 + s) 0 → at + 48 ≤ length b
  row_read p s at h e = omega (arith, offset_there index p s h)

-- ---- the rows of a part

-- the slots that the first s rows name are marked
abbrev pub PartInv : List Row → ℕ → List ℕ → List ℕ → ℕ → Type 0
PartInv rows first c₀ c s = Marked first (slot_covered (take s rows)) c₀ c

module _ {b offs starts : List ℕ} {n : ℕ} {c₀ : List ℕ} (st : Standing b offs starts n c₀) where
  abbrev S : Set
  S = set_in b

  slots_stand_lem : (p s : ℕ) → s < length (get_or S p []) → T (slots_stand (get_or S p []) (row_at S p s))
  unfolding judged
  slots_stand_lem p s h = row_slots_stand (get_or S p []) (row_at S p s) (st.boundary p s h)

  all_stand : (p : ℕ) (r : Row) → In r (get_or S p []) → T (slots_stand (get_or S p []) r)
  unfolding row_at
  all_stand p r i =
      let w = in_get_or (get_or S p []) r no_row i in
      subst (λ (x : Row). T (slots_stand (get_or S p []) x)) (sym w.2) (slots_stand_lem p w.0 w.1)

  module _ (p : ℕ) (hp : p < n) where
    abbrev rows : List Row
    rows = get_or S p []

    pub part_start : PartInv rows (get_or starts p 0) c₀ c₀ 0
    unfolding slot_covered some?
    part_start = mark_none (get_or starts p 0) c₀

    module _ (first count : ℕ) (ef : first ≡ get_or starts p 0 + 0) (ec : count ≡ get_or starts (p + 1) 0 - get_or starts p 0) where
      is-first : first ≡ get_or starts p 0
      is-first = omega (arith, ef)

      is_count : count ≡ length rows
      is_count = ec ∙ part-rows st.index p hp

      module _ (s at : ℕ) (c : List ℕ) (h : s < count) (inv : PartInv rows (get_or starts p 0) c₀ c s) where
        there : s < length rows
        there = omega (arith, is_count)

        pub part-row-asked : (p < length starts) × (get_or starts p 0 + s < length offs)
        part-row-asked = row_asked st.index p s there

        module _ (ea : at ≡ get_or offs (get_or starts p 0 + s) 0) where
          is_row : row_at S p s ≡ row_from b at
          is_row = st.index.row p s there ∙ ap (row_from b) (sym ea)

          -- what `cover_row` wants
          pub part-row : RowStands b at first c
          unfolding judged
          part-row = record {
            there = row_read st.index p s at there ea;
            low = subst (λ (r : Row). r.dim ≤ 3) is_row (fields_of (length S) p (row_at S p s) (st.fields p s there)).dim;
            inside = λ f i.
                let l = slot_inside rows (row_at S p s) (slots_stand_lem p s there) f (subst (λ (r : Row). In f (slots_named r)) (sym is_row) i) in
                omega (arith, is-first, inv.same, st.room, row_there st.index p f l);
          }

          pub part_turn : (c' : List ℕ) → Marked first (λ f. member f (slots_named (row_from b at))) c c' → PartInv rows (get_or starts p 0) c₀ c' (s + 1)
          unfolding slot_covered row_at
          part_turn c' m =
              let m' = subst (λ (k : ℕ). Marked k (λ f. member f (slots_named (row_from b at))) c c') is-first m in
              mark_same (get_or starts p 0)
              (λ f. sym (ap (λ (k : ℕ). some? (λ r. member f (slots_named r)) (take k rows)) (add-one s)
              ∙ some_take (λ r. member f (slots_named r)) rows s no_row there
              ∙ ap (λ (r : Row). some? (λ r. member f (slots_named r)) (take s rows) || member f (slots_named r)) is_row))
              (mark_then (get_or starts p 0) inv m')

-- ---- the parts of a set

-- the first p parts are marked, and no entry behind them
pub record CoverInv (b starts : List ℕ) (n : ℕ) (c₀ c : List ℕ) (p : ℕ) : Type 0 where
  pub same : length c ≡ length c₀
  pub below : (q : ℕ) → q < p → get_or starts q 0 + length (get_or (set_in b) q []) ≤ get_or starts p 0
  pub done : (q s : ℕ) → q < p → s < length (get_or (set_in b) q []) → get_or c (get_or starts q 0 + s) 0 ≡ cond (slot_covered (get_or (set_in b) q []) s) 1 0
  pub blank : (g : ℕ) → get_or starts p 0 ≤ g → get_or c g 0 ≡ 0

module _ {b offs starts : List ℕ} {n : ℕ} {c₀ : List ℕ} (bl : Blank b offs starts n c₀) where
  pub cover_turn : (p : ℕ) (c c' : List ℕ) → p < n → CoverInv b starts n c₀ c p → Marked (get_or starts p 0) (slot_covered (get_or (set_in b) p [])) c c'
      → CoverInv b starts n c₀ c' (p + 1)
  cover_turn p c c' h inv m = record {
    same = m.same ∙ inv.same;
    below = λ q l. go-below q l (decide (ltb q p));
    done = λ q s l k. go-done q s l k (decide (ltb q p));
    blank = λ g l. go-blank g l;
  }
    where
      next : get_or starts (p + 1) 0 ≡ get_or starts p 0 + length (get_or (set_in b) p [])
      next = bl.stands.index.next p h

      is : (q : ℕ) → q < p + 1 → T (not (ltb q p)) → q ≡ p
      is q l t = omega (arith, nltb→le q p t)

      go-below : (q : ℕ) → q < p + 1 → T (ltb q p) ⊎ T (not (ltb q p)) → get_or starts q 0 + length (get_or (set_in b) q []) ≤ get_or starts (p + 1) 0
      go-below q l (inl t) = omega (arith, next, inv.below q (ltb→lt q p t))
      go-below q l (inr t) = rw (is q l t) (omega (arith, next))

      go-done : (q s : ℕ) → q < p + 1 → s < length (get_or (set_in b) q []) → T (ltb q p) ⊎ T (not (ltb q p))
          → get_or c' (get_or starts q 0 + s) 0 ≡ cond (slot_covered (get_or (set_in b) q []) s) 1 0
      go-done q s l k (inl t) =
          m.before (get_or starts q 0 + s) (omega (arith, inv.below q (ltb→lt q p t))) ∙ inv.done q s (ltb→lt q p t) k
      go-done q s l k (inr t) =
          rw (is q l t)
          (m.behind s ∙ ap (λ (x : ℕ). cond (slot_covered (get_or (set_in b) p []) s) 1 x) (inv.blank (get_or starts p 0 + s) (omega arith)))

      go-blank : (g : ℕ) → get_or starts (p + 1) 0 ≤ g → get_or c' g 0 ≡ 0
      go-blank g l =
          let rows = get_or (set_in b) p [] in
          let k = get_or starts p 0 in
          let e : k + (g - k) ≡ g = omega (arith, next) in
          let z : slot_covered rows (g - k) ≡ false = none_behind rows (all_stand bl.stands p) (g - k) (omega (arith, next)) in
          let after : get_or c' (k + (g - k)) 0 ≡ get_or c (k + (g - k)) 0 = m.behind (g - k) ∙ ap (λ (x : Bool). cond x 1 (get_or c (k + (g - k)) 0)) z in
          rw e at after ∙ inv.blank g (omega (arith, next))
