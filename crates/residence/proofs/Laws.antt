-- Rule 11 by the table of covered rows, and the copies of a row one after the other. Assumes nothing.
use Prim.Native.Nat.{ℕ, suc, ◌+◌, ◌-◌, ◌*◌, ◌^◌, ◌<◌}
use native.Mathlib.Omega.{arith}
use mathlib.Core.Path.{◌≡◌, refl, sym, ap, ap₂, ◌∙◌, subst}
use mathlib.Core.Bool.{Bool, true, false, not, ◌&&◌, ◌||◌}
use mathlib.Core.Logic.{◌⊎◌, inl, inr}
use mathlib.Core.List.{List, [], ◌∷◌}
use lib.ListN.{length, get_or}
use lib.Dec.{T, eqb, eqb→eq, T_not}
use lib.Pow.{are_bytes}
use borrow.Author.Tests.{eq-eqb, ne_eqb}
use Rattle.laws.specs.Lists.{In, every}
use Rattle.laws.proofs.Tests as tests
use Rattle.laws.proofs.Tests.{decide, iff_eq, both, and_l, and_r, T_true, bit_eqb}
use Rattle.laws.proofs.Members.{get_or_in, every_in, in_every}
use Rattle.laws.proofs.Ascending.{left_out}
use Rattle.laws.proofs.Places.{index_get_or}
use Rattle.field.specs.Bytes.{u32_at, u64_at}
use Rattle.field.proofs.Reading.{u64_lt}
use Rattle.part_set.specs.Masks.{has, parts_in, others, count, Turn}
use Rattle.part_set.proofs.MaskParts.{parts_in_in, in_parts_in, parts_in_ascends, others_in, in_others, others-ascends, others-count}
use Rattle.part_set.proofs.Walk.{parts_none, none_parts}
use Rattle.paper.specs.Image.{Row, Set, remotes, row_at}
use Rattle.paper.specs.Mesh.{ent_of, name}
use Rattle.paper.specs.Sound.{name_of_row, remote_slot_of}
use Rattle.index.specs.Index.{set_in, row_from, Indexed}
use Rattle.index.proofs.RowFields.{row_mask, row_slot, row-length}
use Rattle.demands.proofs.Sound.Facts.{Copied}
use Rattle.demands.proofs.Sound.Rows.{row, row-fields, twin}
use Rattle.demands.proofs.ForCode.Covered.{covered, resides_covered}
use Rattle.paper.specs.declared.Rule.TheVariants.{Residence}
use Rattle.paper.specs.Sound.{judged}
use Rattle.demands.specs.Passed.{PassedAhead}
use Rattle.residence.specs.Tables.{slot_covered, Covers}
use Rattle.residence.specs.Marks.{is_covered, copies_all_covered, CopiesThere}
use Rattle.rows.proofs.Laws.{part_there, row_there}
use Rattle.rows.proofs.Copied.{copied}
use Rattle.residence.proofs.Names.{covered_slot}

-- ---- a turn of the loop of `copies_covered`

-- what is left to ask gives what was to be asked
pub record CopiesInv (b starts covered : List ℕ) (o₀ m₀ o m : ℕ) : Type 0 where
  pub there : CopiesThere b starts covered o (parts_in m)
  pub left : copies_all_covered b starts covered o (parts_in m) ≡ copies_all_covered b starts covered o₀ (parts_in m₀)

module _ {b starts covered : List ℕ} where
  module _ {o₀ m₀ o m : ℕ} (inv : CopiesInv b starts covered o₀ m₀ o m) where
    -- the copy in the part that is taken is there
    module _ {q r : ℕ} (turn : Turn m q r) where
      ahead : CopiesThere b starts covered o (q ∷ parts_in r)
      ahead = subst (λ (qs : List ℕ). CopiesThere b starts covered o qs) turn.parts inv.there

      module _ {t row : ℕ} (et : t ≡ u32_at b o) (er : row ≡ get_or starts q 0 + t) where
        pub copy-row-there : row < length covered
        copy-row-there =
            let z : o + 4 * 0 ≡ o = omega arith in
            let l = subst (λ (i : ℕ). get_or starts q 0 + u32_at b i < length covered) z (ahead.rows 0 (omega arith)) in
            rw (er, et) l

        -- and its entry is asked first
        next-left : copies_all_covered b starts covered o₀ (parts_in m₀) ≡ (eqb (get_or covered row 0) 1 && copies_all_covered b starts covered (o + 4) (parts_in r))
        unfolding copies_all_covered
        next-left =
            sym inv.left ∙ ap (copies_all_covered b starts covered o) turn.parts
            ∙ ap (λ (k : ℕ). eqb (get_or covered k 0) 1 && copies_all_covered b starts covered (o + 4) (parts_in r)) (sym (er ∙ ap (λ (x : ℕ). get_or starts q 0 + x) et))

        pub copies-turn : get_or covered row 0 ≡ 1 → CopiesInv b starts covered o₀ m₀ (o + 4) r
        copies-turn e = record {
          there = record {
            room = inv.there.room;
            slots = omega (arith, ahead.slots);
            rows = λ i h.
                let e : o + 4 * suc i ≡ o + 4 + 4 * i = omega arith in
                subst (λ (k : ℕ). get_or starts (get_or (parts_in r) i 0) 0 + u32_at b k < length covered) e (ahead.rows (suc i) (omega arith));
          };
          left = sym (next-left ∙ ap (λ (t : Bool). t && copies_all_covered b starts covered (o + 4) (parts_in r)) (eq-eqb _ _ e));
        }

        pub copies_open : (get_or covered row 0 ≡ 1 → ⊥) → false ≡ copies_all_covered b starts covered o₀ (parts_in m₀)
        copies_open ne = sym (next-left ∙ ap (λ (t : Bool). t && copies_all_covered b starts covered (o + 4) (parts_in r)) (ne_eqb _ _ ne))

    pub copies_end : m ≡ 0 → true ≡ copies_all_covered b starts covered o₀ (parts_in m₀)
    unfolding copies_all_covered
    copies_end z = sym (ap (copies_all_covered b starts covered o) (ap parts_in z ∙ parts_none)) ∙ inv.left

-- ---- asked one after the other, or each

copies-every : (b starts covered : List ℕ) (f : ℕ → Bool) (o : ℕ) (qs : List ℕ)
    → ((i : ℕ) → i < length qs → is_covered starts covered (get_or qs i 0) (u32_at b (o + 4 * i)) ≡ f (get_or qs i 0)) → copies_all_covered b starts covered o qs ≡ every f qs
unfolding copies_all_covered every
copies-every b starts covered f o [] h = refl
copies-every b starts covered f o (q ∷ qs) h =
    let z : o + 4 * 0 ≡ o = omega arith in
    ap₂ ◌&&◌ (ap (λ (k : ℕ). is_covered starts covered q (u32_at b k)) (sym z) ∙ h 0 (omega arith))
    (copies-every b starts covered f (o + 4) qs (λ i l.
    let e : o + 4 + 4 * i ≡ o + 4 * suc i = omega arith in
    ap (λ (k : ℕ). is_covered starts covered (get_or qs i 0) (u32_at b k)) e ∙ h (suc i) (omega arith)))

-- ---- sets of parts

count-others : (m p : ℕ) → p < 64 → T (has m p) → count m ≡ suc (length (others m p))
unfolding others count
count-others m p h t = sym (left_out p (parts_in m) (parts_in_ascends m) (in_parts_in m p h t))

every-others : (f : ℕ → Bool) (m p : ℕ) → p < 64 → T (has m p) → (f p && every f (others m p)) ≡ every f (parts_in m)
every-others f m p h t =
    iff_eq (f p && every f (others m p)) (every f (parts_in m))
    (λ a. in_every f (parts_in m) (λ q i. go a q i (decide (eqb q p))))
    (λ a. both (f p) (every f (others m p)) (every_in f (parts_in m) a p (in_parts_in m p h t))
    (in_every f (others m p) (λ q i. let w = others_in m p q i in every_in f (parts_in m) a q (in_parts_in m q w.0 w.1))))
  where
    go : T (f p && every f (others m p)) → (q : ℕ) → In q (parts_in m) → T (eqb q p) ⊎ T (not (eqb q p)) → T (f q)
    go a q i (inl e) = subst (λ (z : ℕ). T (f z)) (sym (eqb→eq q p e)) (and_l (f p) (every f (others m p)) a)
    go a q i (inr ne) =
        let w = parts_in_in m q i in
        every_in f (others m p) (and_r (f p) (every f (others m p)) a) q (in_others m p q w.0 w.1 (λ e. T_not (eqb q p) ne (tests.eq-eqb q p e)))

-- ---- the judgement of a row

module _ {b offs starts cov : List ℕ} {n : ℕ} (index : Indexed b offs starts n) (y : T (are_bytes b)) (pass : PassedAhead Residence (set_in b)) (covers : Covers b starts cov)
    (p s : ℕ) (h : s < length (get_or (set_in b) p [])) where
  abbrev S : Set
  S = set_in b

  f : Copied S
  f = copied index y pass (omega (arith, part_there index p s h))

  abbrev o : ℕ
  o = get_or offs (get_or starts p 0 + s) 0

  abbrev m : ℕ
  m = (row S p s).mask

  is_row : row S p s ≡ row_from b o
  unfolding row_at
  is_row = index.row p s h

  mask_read : u64_at b (o + 8) ≡ m
  mask_read = sym (ap (λ (r : Row). r.mask) is_row ∙ row_mask b o)

  part_small : p < 64
  part_small = omega (arith, part_there index p s h, index.few)

  own_there : T (has m p)
  own_there = (row-fields S f p s h).own

  -- a row's entry is whether its name is covered
  entry_covered : (q t : ℕ) → t < length (get_or S q []) → is_covered starts cov q t ≡ covered S q (name_of_row (row S q t))
  entry_covered q t l = ap (λ (k : ℕ). eqb k 1) (covers.entry q t l) ∙ bit_eqb (slot_covered (get_or S q []) t) ∙ covered_slot S f q t l

  -- the i-th remote copy
  module _ (i : ℕ) (l : i < length (others m p)) where
    q : ℕ
    q = get_or (others m p) i 0

    in_q : In q (others m p)
    unfolding q
    in_q = get_or_in (others m p) i 0 l

    remote_is : u32_at b (o + 48 + 4 * i) ≡ remote_slot_of (row S p s) p q
    unfolding remote_slot_of q remotes
    remote_is =
        let few : i < remotes (row_from b o).mask = subst (λ (r : Row). i < remotes r.mask) is_row (omega (arith, l, others-count m p part_small own_there)) in
        sym (row_slot b o i few) ∙ ap (λ (r : Row). get_or r.slots i 0) (sym is_row)
        ∙ ap (λ (k : ℕ). get_or (row S p s).slots k 0) (sym (index_get_or (others m p) (others-ascends m p) i l))

    remote_there : u32_at b (o + 48 + 4 * i) < length (get_or S q [])
    remote_there = rw remote_is (twin S f p s q h in_q).slot

    remote-covered : is_covered starts cov q (u32_at b (o + 48 + 4 * i)) ≡ covered S q (name_of_row (row S p s))
    unfolding ent_of
    remote-covered =
        entry_covered q (u32_at b (o + 48 + 4 * i)) remote_there
        ∙ ap (λ (t : ℕ). covered S q (name_of_row (row S q t))) remote_is
        ∙ ap (covered S q) (sym (ap name (twin S f p s q h in_q).ent-same))

    remote_room : get_or starts q 0 + u32_at b (o + 48 + 4 * i) < length cov
    remote_room = omega (arith, row_there index q (u32_at b (o + 48 + 4 * i)) remote_there, covers.room)

  copies-covered : copies_all_covered b starts cov (o + 48) (others m p) ≡ every (λ q. covered S q (name_of_row (row S p s))) (others m p)
  unfolding q
  copies-covered = copies-every b starts cov (λ q. covered S q (name_of_row (row S p s))) (o + 48) (others m p) remote-covered

  others_there : CopiesThere b starts cov (o + 48) (others m p)
  unfolding q row_at remotes
  others_there = record {
    room = omega (arith, index.starts_room);
    slots = omega (arith, index.there p s h, row-length m, others-count m p part_small own_there);
    rows = remote_room;
  }

  -- what `copies_covered` wants
  copies_there : (r : ℕ) → parts_in r ≡ others m p → CopiesThere b starts cov (o + 48) (parts_in r)
  copies_there r e = subst (λ (qs : List ℕ). CopiesThere b starts cov (o + 48) qs) (sym e) others_there

  judged_is : judged Residence S p s ≡ (eqb (count m) 1 || every (λ q. covered S q (name_of_row (row S p s))) (parts_in m))
  unfolding judged row_at
  judged_is = resides_covered S f p s h

  -- in one part only
  one-part : (r : ℕ) → parts_in r ≡ others m p → r ≡ 0 → true ≡ judged Residence S p s
  one-part r e z =
      let none : length (others m p) ≡ 0 = ap length (sym e ∙ ap parts_in z ∙ parts_none) in
      let one : count m ≡ 1 = omega (arith, count-others m p part_small own_there) in
      sym (judged_is ∙ ap (λ (t : Bool). t || every (λ q. covered S q (name_of_row (row S p s))) (parts_in m)) (eq-eqb _ _ one))

  -- in several: covered in each
  several_parts : (r : ℕ) (t : Bool) → parts_in r ≡ others m p → (r ≡ 0 → ⊥) → r < 2 ^ 64 → t ≡ copies_all_covered b starts cov (o + 48) (parts_in r)
      → (is_covered starts cov p s && t) ≡ judged Residence S p s
  several_parts r t e ne small is =
      let k = name_of_row (row S p s) in
      ap₂ ◌&&◌ (entry_covered p s h) (is ∙ ap (copies_all_covered b starts cov (o + 48)) e ∙ copies-covered)
      ∙ every-others (λ q. covered S q k) m p part_small own_there
      ∙ sym (judged_is ∙ ap (λ (t : Bool). t || every (λ q. covered S q k) (parts_in m)) (ne_eqb (count m) 1 (λ one.
      ne (none_parts r small (empty (others m p) (omega (arith, count-others m p part_small own_there, one)) e)))))
    where
      empty : (qs : List ℕ) → length qs ≡ 0 → parts_in r ≡ qs → parts_in r ≡ []
      empty [] z e = e
      empty (x ∷ xs) z e = absurd (omega arith)

  -- ---- by what is read

  module _ (at mask : ℕ) (ea : at ≡ o) (em : mask ≡ u64_at b (at + 8)) where
    is_mask : mask ≡ m
    is_mask = em ∙ ap (λ (k : ℕ). u64_at b (k + 8)) ea ∙ mask_read

    pub mask_own : (p < 64) × (has mask p ≡ true)
    mask_own = (part_small, rw is_mask (T_true (has m p) own_there))

    module _ (r : ℕ) (er : parts_in r ≡ others mask p) where
      is-others : parts_in r ≡ others m p
      is-others = er ∙ ap (λ (k : ℕ). others k p) is_mask

      pub one-judged : r ≡ 0 → true ≡ judged Residence S p s
      one-judged z = one-part r is-others z

      pub copies-ready : CopiesThere b starts cov (at + 48) (parts_in r)
      copies-ready = rw ea (copies_there r is-others)

      pub several-judged : r ≡ mask - 2 ^ p → (r ≡ 0 → ⊥) → (row : ℕ) (t : Bool) → row ≡ get_or starts p 0 + s → t ≡ copies_all_covered b starts cov (at + 48) (parts_in r)
          → (eqb (get_or cov row 0) 1 && t) ≡ judged Residence S p s
      several-judged e ne row t ew et =
          let small : r < 2 ^ 64 = omega (arith, e, em, u64_lt b (at + 8) y) in
          ap (λ (k : ℕ). eqb (get_or cov k 0) 1 && t) ew
          ∙ several_parts r t is-others ne small (et ∙ ap (λ (k : ℕ). copies_all_covered b starts cov (k + 48) (parts_in r)) ea)
