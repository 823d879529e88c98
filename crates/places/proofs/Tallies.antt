-- The rows of all parts counted, one part after another, and what the counts say of the paper's objects. Assumes nothing.
use Prim.Native.Nat.{ℕ, ◌+◌, ◌-◌, ◌≤◌, ◌<◌}
use native.Mathlib.Nat.{mul-one}
use native.Mathlib.Omega.{arith}
use mathlib.Core.Path.{◌≡◌, refl, sym, ap, ◌∙◌, subst}
use mathlib.Core.Bool.{Bool, true, false, not, cond, ◌&&◌}
use mathlib.Core.List.{List, [], map}
use lib.ListN.{length, get_or}
use lib.Dec.{T, eqb, ltb, ltb→lt, eqb→eq}
use Rattle.laws.specs.Lists.{In, keep, up_to, total}
use Rattle.laws.proofs.Members.{in_map, every_in}
use Rattle.laws.proofs.Totals.{total_none, total_suc, total-same}
use Rattle.paper.specs.Image.{Row, no_row, row_at}
use Rattle.paper.specs.Mesh.{Entity, name, ent_of}
use Rattle.paper.specs.Sound.{name_of_row}
use Rattle.paper.specs.Placement.{objects, places_of}
use Rattle.index.specs.Index.{set_in, max_rows, Indexed}
use Rattle.rows.proofs.Laws.{part_room, part-rows}
use Rattle.demands.proofs.Sound.Facts.{Sound}
use Rattle.demands.proofs.Sound.Rows.{row, ent}
use Rattle.demands.proofs.ForCode.Covered.{covered}
use Rattle.demands.proofs.ForCode.Sizes.{total_each}
use Rattle.demands.proofs.ForCode.SpreadRows.{placed_in}
use Rattle.demands.proofs.ForCode.Counts.{kept_total, placed_by_rows, moved_by_rows}
use Rattle.moves.proofs.OpenRows.{row_open}
use Rattle.plan.specs.Plan.{mesh, placing, sent_to, moved_count, Tallied}
use Rattle.places.specs.Sending.{Tallyable}
use Rattle.places.specs.Counting.{goes, leaves, how_many, ObjectsCountable, RowsCounted}
use Rattle.places.proofs.CountedRows.{many_le}
use Rattle.places.proofs.ObjectRows.{open_in}

-- how many rows of part p pass
abbrev in_part : List ℕ → List ℕ → (ℕ → Bool) → ℕ → ℕ
in_part b starts t p = how_many t (get_or starts p 0) (length (get_or (set_in b) p []))

-- the first p parts are counted
pub record Tallying (b starts table dest : List ℕ) (n : ℕ) (counts₀ counts : List ℕ) (p left : ℕ) : Type 0 where
  pub to : p ≤ n
  pub same : length counts ≡ length counts₀
  pub sent : (q : ℕ) → q < 64 → get_or counts q 0 ≡ total (λ r. in_part b starts (goes table dest q) r) p
  pub away : left ≡ total (λ r. in_part b starts (leaves table dest r) r) p
  pub small : (q : ℕ) → q < 64 → get_or counts q 0 ≤ get_or starts p 0
  pub few : left ≤ get_or starts p 0

module _ {b l offs starts table dest counts₀ : List ℕ} {n : ℕ} (index : Indexed b offs starts n) (asked : Tallyable b l starts table dest counts₀ n) where
  pub tallying_none : Tallying b starts table dest n counts₀ counts₀ 0 0
  tallying_none = record {
    to = omega arith;
    same = refl;
    sent = λ q h. asked.none q h ∙ sym (total_none (λ r. in_part b starts (goes table dest q) r));
    away = sym (total_none (λ r. in_part b starts (leaves table dest r) r));
    small = λ q h. omega (arith, asked.none q h);
    few = omega arith;
  }

  module _ (f : Sound (set_in b)) where
    -- an object goes to one of the parts
    goes_there : (p s : ℕ) → s < length (get_or (set_in b) p []) → get_or table (get_or starts p 0 + s) 0 ≡ 0 → get_or dest (get_or starts p 0 + s) 0 < n
    unfolding places_of row_at ent_of
    goes_there p s h o =
        let S = set_in b in
        let os = objects (mesh b) in
        let to = placing b l (name_of_row (row S p s)) in
        let i : In to (map (λ (e : Entity). placing b l (name e)) os) = in_map (λ (e : Entity). placing b l (name e)) os (ent S p s) (open_in f asked.covers p s h o) in
        omega (arith, asked.destined.entry p s h o, ltb→lt to n (every_in (λ q. ltb q n) (map (λ (e : Entity). placing b l (name e)) os) asked.well.placed to i))

    module _ (counts : List ℕ) (p left : ℕ) (inv : Tallying b starts table dest n counts₀ counts p left) (h : p < n) (first count : ℕ) (ef : first ≡ get_or starts p 0 + 0)
        (ec : count ≡ get_or starts (p + 1) 0 - get_or starts p 0) where
      is_count : count ≡ length (get_or (set_in b) p [])
      is_count = ec ∙ part-rows index p h

      rows_fit : first + count ≤ max_rows
      rows_fit = omega (arith, ef, is_count, part_room index p h, index.total_few)

      pub tallying-asked : ObjectsCountable table dest counts first count
      tallying-asked = record {
        few = rows_fit;
        room_covered = omega (arith, rows_fit, asked.covers.room);
        room_dest = omega (arith, rows_fit, asked.destined.room);
        parts = omega (arith, asked.room, inv.same);
        to = λ g a z o.
            let s = g - first in
            let e : get_or starts p 0 + s ≡ g = omega (arith, ef) in
            let there = goes_there p s (omega (arith, is_count)) (ap (λ (k : ℕ). get_or table k 0) e ∙ o) in
            omega (arith, there, ap (λ (k : ℕ). get_or dest k 0) e, index.few);
        small = λ q k. omega (arith, inv.small q k, ef);
      }

      pub tallying-fits : (counts' : List ℕ) (some : ℕ) → RowsCounted table dest p first count counts counts' some → left + some ≤ max_rows
      tallying-fits counts' some r = omega (arith, r.away, inv.few, many_le (leaves table dest p) first count, rows_fit, ef)

      pub tallying-more : (counts' : List ℕ) (some : ℕ) → RowsCounted table dest p first count counts counts' some
          → Tallying b starts table dest n counts₀ counts' (p + 1) (left + some)
      tallying-more counts' some r =
          let ef' : first ≡ get_or starts p 0 = omega (arith, ef) in
          let part : (t : ℕ → Bool) → how_many t first count ≡ in_part b starts t p = λ t. ap (λ (k : ℕ). how_many t k count) ef' ∙ ap (how_many t (get_or starts p 0)) is_count in
          let next = index.next p h in
          record {
            to = omega arith;
            same = r.same ∙ inv.same;
            sent = λ q k. omega (arith, r.sent q k, inv.sent q k, part (goes table dest q), total_suc (λ r. in_part b starts (goes table dest q) r) p);
            away = omega (arith, r.away, inv.away, part (leaves table dest p), total_suc (λ r. in_part b starts (leaves table dest r) r) p);
            small = λ q k. omega (arith, r.sent q k, inv.small q k, many_le (goes table dest q) first count, is_count, next);
            few = omega (arith, r.away, inv.few, many_le (leaves table dest p) first count, is_count, next);
          }

    -- ---- what the counts say

    module _ (on : ℕ → Bool) (R : Row → Bool) (p : ℕ)
        (agree : (s : ℕ) → s < length (get_or (set_in b) p []) → (not (covered (set_in b) p (name_of_row (row (set_in b) p s))) && R (row (set_in b) p s)) ≡ on (get_or starts p 0 + s)) where
      -- rows that pass, counted by their places
      rows-many : length (keep (λ r. not (covered (set_in b) p (name_of_row r)) && R r) (get_or (set_in b) p [])) ≡ in_part b starts on p
      rows-many =
          let rows = get_or (set_in b) p [] in
          let is : Row → Bool = λ r. not (covered (set_in b) p (name_of_row r)) && R r in
          let at : ℕ → Bool = λ s. on (get_or starts p 0 + s) in
          kept_total is rows no_row
          ∙ total-same (λ s. cond (is (get_or rows s no_row)) 1 0) (λ s. cond (at s) 1 0) (length rows) (λ s h. ap (λ (x : Bool). cond x 1 0) (agree s h))
          ∙ total_each at 1 (length rows) ∙ mul-one (length (keep at (up_to (length rows))))

    -- a test of an object's part, by the table and by the placement
    by_table : (G : ℕ → Bool) (p s : ℕ) → s < length (get_or (set_in b) p [])
        → (not (covered (set_in b) p (name_of_row (row (set_in b) p s))) && G (placing b l (name_of_row (row (set_in b) p s))))
        ≡ (eqb (get_or table (get_or starts p 0 + s) 0) 0 && G (get_or dest (get_or starts p 0 + s) 0))
    unfolding row_at
    by_table G p s h =
        ap (λ (x : Bool). x && G to) (sym (row_open f.copied asked.covers p s h)) ∙ go (eqb (get_or table g 0) 0) refl
      where
        g : ℕ
        g = get_or starts p 0 + s

        to : ℕ
        to = placing b l (name_of_row (row (set_in b) p s))

        go : (x : Bool) → eqb (get_or table g 0) 0 ≡ x → (x && G to) ≡ (x && G (get_or dest g 0))
        go true e = ap G (sym (asked.destined.entry p s h (eqb→eq (get_or table g 0) 0 (subst T (sym e) tt))))
        go false e = refl

    sent_is : (q : ℕ) → total (λ r. in_part b starts (goes table dest q) r) (length (set_in b)) ≡ sent_to b l q
    unfolding placed_in goes
    sent_is q =
        sym (placed_by_rows (set_in b) f (placing b l) q
        ∙ total-same (λ p. length (keep (λ r. not (covered (set_in b) p (name_of_row r)) && eqb (placing b l (name_of_row r)) q) (get_or (set_in b) p [])))
        (λ p. in_part b starts (goes table dest q) p) (length (set_in b))
        (λ p _. rows-many (goes table dest q) (λ r. eqb (placing b l (name_of_row r)) q) p (by_table (λ k. eqb k q) p)))

    away_is : total (λ r. in_part b starts (leaves table dest r) r) (length (set_in b)) ≡ moved_count b l
    unfolding leaves
    away_is =
        sym (moved_by_rows (set_in b) f (placing b l)
        ∙ total-same (λ p. length (keep (λ r. not (covered (set_in b) p (name_of_row r)) && not (eqb p (placing b l (name_of_row r)))) (get_or (set_in b) p [])))
        (λ p. in_part b starts (leaves table dest p) p) (length (set_in b))
        (λ p _. rows-many (leaves table dest p) (λ r. not (eqb p (placing b l (name_of_row r)))) p (by_table (λ k. not (eqb p k)) p)))

    pub tallying_done : (counts : List ℕ) (p left : ℕ) → Tallying b starts table dest n counts₀ counts p left → n ≤ p → Tallied b l counts × (left ≡ moved_count b l)
    tallying_done counts p left inv h =
        let e : p ≡ length (set_in b) = omega (arith, inv.to, index.count) in (
          record {
            room = omega (arith, asked.room, inv.same);
            entry = λ q k. inv.sent q (omega (arith, index.few, index.count))
                ∙ ap (total (λ r. in_part b starts (goes table dest q) r)) e ∙ sent_is q;
          },
          inv.away ∙ ap (total (λ r. in_part b starts (leaves table dest r) r)) e ∙ away_is,
        )
