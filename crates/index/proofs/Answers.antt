-- What the answers of `walk` and `find` say of the rows of an image, for their callers. Assumes nothing.
use Prim.Native.Nat.{ℕ, zero, suc, ◌+◌, ◌-◌, ◌≤◌, ◌<◌}
use native.Mathlib.Nat.{not-suc-le-zero, le_of_suc-le-suc, eq-or-lt_of_le, lt_trans, lt_of_not-le, le_refl}
use native.Mathlib.Decide.{dec_le}
use native.Mathlib.Numerals.{add-one}
use native.Mathlib.Omega.{arith}
use mathlib.Core.Path.{◌≡◌, sym, ap, ◌∙◌}
use mathlib.Core.Bool.{false}
use mathlib.Core.Logic.{⊎_elim}
use mathlib.Core.List.{List, [], map}
use mathlib.Core.Option.{none}
use Rattle.std.specs.Prelude.{Option, Some, None, Result, Ok, Err}
use lib.ListN.{length, get_or, drop}
use lib.Dec.{T, ltb→lt}
use Rattle.laws.specs.Lists.{member}
use Rattle.laws.proofs.Members.{member_in, map_in, in_get_or}
use Rattle.laws.proofs.Tests.{no_T}
use Rattle.field.specs.Bytes.{u8_at}
use Rattle.paper.specs.Image.{Row, no_row, walk_parts, row_at}
use Rattle.paper.specs.Sound.{name_of_row, ordered}
use Rattle.paper.specs.declared.Slot.{Slot}
use Rattle.index.specs.Index.{set_in, max_rows, Indexed, Named}
use Rattle.index.specs.Walk.{Whole, Answered, WalkDone}
use Rattle.index.specs.Find.{Searchable, Hit, Miss, Sought}

-- ---- the cases

module _ {b offs starts keys offs' starts' keys' : List ℕ} {w : Option ℕ} (d : WalkDone b offs starts keys offs' starts' keys' w) where
  pub whole : {total : ℕ} → w ≡ Some total → Whole b offs' starts' keys' total
  unfolding Answered
  whole e = rw e at d.answer

  pub not_whole : w ≡ None → walk_parts (u8_at b 5) (drop 8 b) ≡ none
  unfolding Answered
  not_whole e = rw e at d.answer

pub hit : {keys starts : List ℕ} {p x : ℕ} (r : Result Slot Slot) (s : Slot) → r ≡ Ok s → Sought keys starts p x r → Hit keys starts p x s.0
unfolding Sought
hit r s e a = rw e at a

pub miss : {keys starts : List ℕ} {p x : ℕ} (r : Result Slot Slot) (s : Slot) → r ≡ Err s → Sought keys starts p x r → Miss keys starts p x s.0
unfolding Sought
miss r s e a = rw e at a

-- ---- rows in their order ascend by name

pub names_ascend : (rows : List Row) → ((s : ℕ) → s < length rows → T (ordered rows s)) → (i j : ℕ) → i < j → j < length rows
    → name_of_row (get_or rows i no_row) < name_of_row (get_or rows j no_row)
unfolding ordered
names_ascend rows o i zero h g = absurd (not-suc-le-zero h)
names_ascend rows o i (suc j) h g =
    let next : name_of_row (get_or rows j no_row) < name_of_row (get_or rows (suc j) no_row) = ltb→lt _ _ (o (suc j) g) in
    ⊎_elim (λ (e : i ≡ j). rw e next) (λ (l : i < j). lt_trans (names_ascend rows o i j l (omega arith)) next) (eq-or-lt_of_le (le_of_suc-le-suc h))

-- ---- the parts of an index

module _ {b offs starts : List ℕ} {n : ℕ} (ix : Indexed b offs starts n) where
  -- the first rows of the parts do not fall
  pub starts_ascend : (p q : ℕ) → p ≤ q → q ≤ n → get_or starts p 0 ≤ get_or starts q 0
  starts_ascend p zero h g = let e : p ≡ 0 = omega arith in rw e (le_refl (get_or starts 0 0))
  starts_ascend p (suc q) h g =
      ⊎_elim (λ (e : p ≡ suc q). rw e (le_refl (get_or starts (suc q) 0)))
      (λ (l : p < suc q). omega (arith, starts_ascend p q (le_of_suc-le-suc l) (omega arith), rw add-one at (ix.next q g)))
      (eq-or-lt_of_le h)

  module _ (p : ℕ) (h : p < n) where
    -- a place among the rows of the part is a slot
    pub slot_in_lem : (s : ℕ) → get_or starts p 0 + s < get_or starts (p + 1) 0 → s < length (get_or (set_in b) p [])
    slot_in_lem s g = omega (arith, ix.next p h)

    pub in_slot : (s : ℕ) → s < length (get_or (set_in b) p []) → get_or starts p 0 + s < get_or starts (p + 1) 0
    in_slot s g = omega (arith, ix.next p h)

    pub last_few : get_or starts (p + 1) 0 ≤ max_rows
    last_few = omega (arith, starts_ascend (p + 1) n (omega arith) (le_refl n), ix.total_few)

    module _ {keys : List ℕ} (nm : Named b starts keys) where
      -- the part can be searched where its rows are in their order
      pub searchable : ((s : ℕ) → s < length (get_or (set_in b) p []) → T (ordered (get_or (set_in b) p []) s)) → Searchable keys starts p
      unfolding row_at
      searchable o =
          record {
            part = omega (arith, ix.few, ix.starts_room);
            sorted = record {
              order = omega (arith, ix.next p h);
              room = omega (arith, last_few, nm.room);
              ascends = λ i j f l g.
                  let start = get_or starts p 0 in
                  let ei : start + (i - start) ≡ i = omega arith in
                  let ej : start + (j - start) ≡ j = omega arith in
                  let si = slot_in_lem (i - start) (omega arith) in
                  let sj = slot_in_lem (j - start) (omega arith) in
                  omega (arith, ap (λ (k : ℕ). get_or keys k 0) ei, ap (λ (k : ℕ). get_or keys k 0) ej, nm.key p (i - start) si, nm.key p (j - start) sj, names_ascend (get_or (set_in b) p []) o (i - start) (j - start) (omega arith) sj);
            };
          }

      pub hit-row : (x s : ℕ) → Hit keys starts p x s → (s < length (get_or (set_in b) p [])) × (name_of_row (row_at (set_in b) p s) ≡ x)
      hit-row x s v = let g = slot_in_lem s v.inside in (g, sym (nm.key p s g) ∙ v.same)

      module _ (x s : ℕ) (v : Miss keys starts p x s) where
        -- no row of the part has the name
        miss-name : (t : ℕ) → t < length (get_or (set_in b) p []) → name_of_row (row_at (set_in b) p t) ≡ x → ⊥
        miss-name t g e =
            elim (dec_le s t) [
              | yes l ↦ omega (arith, v.above t l (in_slot t g), nm.key p t g)
              | no l ↦ omega (arith, v.below t (lt_of_not-le l), nm.key p t g)
            ]

        pub miss-member : member x (map name_of_row (get_or (set_in b) p [])) ≡ false
        unfolding row_at
        miss-member =
            no_T (member x (map name_of_row (get_or (set_in b) p [])))
            (λ m.
            let r = map_in name_of_row (get_or (set_in b) p []) x (member_in x (map name_of_row (get_or (set_in b) p [])) m) in
            let w = in_get_or (get_or (set_in b) p []) r.0 no_row r.1 in
            miss-name w.0 w.1 (sym (r.2 ∙ ap name_of_row w.2)))

        -- the rows before the slot have lesser names, and the others greater
        pub miss-slot : s ≤ length (get_or (set_in b) p [])
        miss-slot = omega (arith, ix.next p h, v.inside)

        pub miss-below : (t : ℕ) → t < s → name_of_row (row_at (set_in b) p t) < x
        miss-below t l = omega (arith, v.below t l, nm.key p t (omega (arith, miss-slot)))

        pub miss-above : (t : ℕ) → s ≤ t → t < length (get_or (set_in b) p []) → x < name_of_row (row_at (set_in b) p t)
        miss-above t l g = omega (arith, v.above t l (in_slot t g), nm.key p t g)
