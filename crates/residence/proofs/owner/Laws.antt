-- Objects counted in the table of covered rows, and rule 12 by their counts. Assumes nothing.
use Prim.Native.Nat.{ℕ, zero, suc, ◌+◌, ◌-◌, ◌^◌, ◌≤◌, ◌<◌}
use native.Mathlib.Nat.{not-suc-le-zero, le_of_suc-le-suc}
use native.Mathlib.Numerals.{add-one}
use native.Mathlib.Omega.{arith}
use mathlib.Core.Path.{◌≡◌, refl, sym, ap, ap₂, ◌∙◌, subst}
use mathlib.Core.Bool.{Bool, true, false, not, cond}
use mathlib.Core.Logic.{inl, inr}
use mathlib.Core.List.{List, [], ◌∷◌}
use lib.ListN.{length, get_or, take, drop, length-drop}
use lib.Seq.{take_all, length-take-le}
use lib.Dec.{T, eqb, ltb}
use lib.Pow.{are_bytes}
use mir.Val.{bool_byte}
use Rattle.laws.specs.Lists.{In, keep}
use Rattle.laws.proofs.Tests.{bit_open}
use Rattle.field.proofs.Stores.{get_or_run}
use Rattle.field.specs.Bytes.{u8_at, u64_at}
use Rattle.part_set.specs.Masks.{parts_in, lowest_of, Rest, Turn}
use Rattle.part_set.proofs.MaskParts.{has_lt, parts_in_in, in_parts_in}
use Rattle.part_set.proofs.Walk.{parts_none}
use Rattle.paper.specs.Image.{Row, Set, no_row, row_at}
use Rattle.paper.specs.Mesh.{parts_of, objects_in, poorest, owner_among}
use Rattle.paper.specs.Sound.{name_of_row, owned_well}
use Rattle.index.specs.Index.{set_in, row_from, Indexed}
use Rattle.index.proofs.RowFields.{row_owner, row_mask}
use Rattle.demands.proofs.Sound.Facts.{Copied}
use Rattle.demands.proofs.Sound.Rows.{row, row-fields}
use Rattle.demands.proofs.ForCode.Covered.{covered, part-objects}
use Rattle.paper.specs.declared.Rule.TheVariants.{Residence, Owner}
use Rattle.paper.specs.Sound.{judged}
use Rattle.demands.specs.Passed.{PassedAhead}
use Rattle.demands.proofs.ForCode.SpreadRows.{poorest-same}
use Rattle.residence.specs.Tables.{slot_covered, Covers, Counted}
use Rattle.residence.specs.Owners.{open_from, poorest_of, RowsCountable, OpenCounted}
use Rattle.rows.proofs.Laws.{part_room, part-rows, part_there}
use Rattle.rows.proofs.Copied.{copied}
use Rattle.residence.proofs.Names.{covered_slot}

-- ---- the rows that are not covered

-- one element more
keep-take : {A : Type 0} (f : A → Bool) (xs : List A) (k : ℕ) (d : A) → k < length xs → length (keep f (take (suc k) xs)) ≡ length (keep f (take k xs)) + cond (f (get_or xs k d)) 1 0
unfolding keep
keep-take f [] k d h = absurd (not-suc-le-zero h)
keep-take f (x ∷ xs) zero d h = go (f x)
  where
    go : (t : Bool) → length (cond t (x ∷ []) []) ≡ 0 + cond t 1 0
    go true = refl
    go false = refl
keep-take f (x ∷ xs) (suc k) d h = go (f x) (keep-take f xs k d (le_of_suc-le-suc h))
  where
    go : (t : Bool) → length (keep f (take (suc k) xs)) ≡ length (keep f (take k xs)) + cond (f (get_or xs k d)) 1 0
        → length (cond t (x ∷ keep f (take (suc k) xs)) (keep f (take (suc k) xs))) ≡ length (cond t (x ∷ keep f (take k xs)) (keep f (take k xs))) + cond (f (get_or xs k d)) 1 0
    go true e = omega (arith, e)
    go false e = e

pub open_le : (cov : List ℕ) (first k : ℕ) → open_from cov first k ≤ k
unfolding open_from
open_le cov first zero = omega arith
open_le cov first (suc k) = go (eqb (get_or cov (first + k) 0) 0) (open_le cov first k)
  where
    go : (t : Bool) → open_from cov first k ≤ k → open_from cov first k + cond t 1 0 ≤ suc k
    go true h = omega arith
    go false h = omega arith

open_keep : {A : Type 0} (f : A → Bool) (xs : List A) (d : A) (cov : List ℕ) (first : ℕ) → ((i : ℕ) → i < length xs → eqb (get_or cov (first + i) 0) 0 ≡ f (get_or xs i d))
    → (k : ℕ) → k ≤ length xs → open_from cov first k ≡ length (keep f (take k xs))
unfolding open_from keep
open_keep f xs d cov first h zero l = refl
open_keep f xs d cov first h (suc k) l =
    ap₂ (λ (n : ℕ) (t : Bool). n + cond t 1 0) (open_keep f xs d cov first h k (omega arith)) (h k (omega arith)) ∙ sym (keep-take f xs k d (omega arith))

-- ---- loops and chains

-- `count_open`: found so far are those among the first i entries
pub record OpenInv (cov : List ℕ) (first found i : ℕ) : Type 0 where
  pub few : found ≤ i
  pub is : found ≡ open_from cov first i

pub open_start : (cov : List ℕ) (first : ℕ) → OpenInv cov first 0 0
unfolding open_from
open_start cov first = record { few = omega arith; is = refl }

pub open_turn : (cov : List ℕ) (first count found i v : ℕ) → first + count ≤ length cov → OpenInv cov first found i → i < length (take (first + count - first) (drop first cov))
    → v ≡ bool_byte (eqb (get_or (take (first + count - first) (drop first cov)) i 0) 0) → OpenInv cov first (found + v) (i + 1)
unfolding open_from
open_turn cov first count found i v room inv h e =
    let size : first + count - first ≡ count = omega arith in
    let there : i < count = omega (arith, rw size at h, length-take-le count (drop first cov) (omega (arith, length-drop first cov))) in
    let test : ℕ → Bool = λ x. eqb x 0 in
    let bit : v ≡ cond (test (get_or cov (first + i) 0)) 1 0 = rw (size, get_or_run cov first count room i there) at e ∙ byte_bit (test (get_or cov (first + i) 0)) in
    record {
      few = omega (arith, inv.few, bit_few (eqb (get_or cov (first + i) 0) 0), bit);
      is = rw (add-one i) (ap₂ (λ (x y : ℕ). x + y) inv.is bit);
    }
  where
    byte_bit : (t : Bool) → bool_byte t ≡ cond t 1 0
    byte_bit true = refl
    byte_bit false = refl

    bit_few : (t : Bool) → cond t 1 0 ≤ 1
    bit_few true = omega arith
    bit_few false = omega arith

-- `count_objects`
pub record CountInv (starts cov : List ℕ) (n : ℕ) (counts₀ counts : List ℕ) (p : ℕ) : Type 0 where
  pub same : length counts ≡ length counts₀
  pub entry : (q : ℕ) → q < p → get_or counts q 0 ≡ open_from cov (get_or starts q 0) (get_or starts (q + 1) 0 - get_or starts q 0)

-- ---- in the index of an image

pub countable : {b offs starts cov counts : List ℕ} {n : ℕ} → Indexed b offs starts n → Covers b starts cov → 64 ≤ length counts → RowsCountable starts cov n counts
countable index covers room = record {
  few = index.few;
  starts_room = index.starts_room;
  counts_room = room;
  ascend = λ p h. omega (arith, index.next p h);
  inside = λ p h. omega (arith, index.next p h, part_room index p h, index.total_few, covers.room);
}

-- the entries that are 0 are the objects
pub open_objects : {b offs starts cov counts counts' : List ℕ} {n : ℕ} → Indexed b offs starts n → T (are_bytes b) → PassedAhead Owner (set_in b) → Covers b starts cov
    → 64 ≤ length counts → OpenCounted starts cov n counts counts' → Counted b counts'
unfolding judged
open_objects {b} {offs} {starts} {cov} {counts} {counts'} {n} index y pass covers room done = record {
  room = omega (arith, done.same);
  entry = λ p h.
      let S = set_in b in
      let rows = get_or S p [] in
      let hp : p < n = omega (arith, index.count) in
      let f : Copied S = copied index y (λ rule k. pass rule (omega arith)) (omega arith) in
      let open' : Row → Bool = λ r. not (covered S p (name_of_row r)) in
      done.entry p hp
      ∙ ap (open_from cov (get_or starts p 0)) (part-rows index p hp)
      ∙ open_keep open' rows no_row cov (get_or starts p 0)
      (λ i l. ap (λ (k : ℕ). eqb k 0) (covers.entry p i l) ∙ bit_open (slot_covered rows i) ∙ ap not (covered_slot S f p i l)) (length rows) (omega arith)
      ∙ ap (λ (l : List Row). length (keep open' l)) (take_all (length rows) rows (omega arith))
      ∙ sym (part-objects S f (pass Residence (omega arith)) p);
}

-- ---- the poorest

-- `owner_of`
pub record OwnerInv (counts : List ℕ) (m best left : ℕ) : Type 0 where
  pub small : best < 64
  pub is : poorest (λ q. get_or counts q 0) best (parts_in left) ≡ poorest_of counts (parts_in m)

pub owner_start : {counts : List ℕ} {m r best left : ℕ} → Rest m r → best ≡ lowest_of m → best < 64 → left ≡ r → OwnerInv counts m best left
unfolding poorest_of
owner_start w e h is = record { small = h; is = rw (is, w.parts, e) }

pub owner_turn : {counts : List ℕ} {m best left r q v : ℕ} → OwnerInv counts m best left → Turn left q r
    → v ≡ cond (ltb (get_or counts q 0) (get_or counts best 0)) q best → OwnerInv counts m v r
unfolding poorest
owner_turn {counts} {m} {best} {left} {r} {q} {v} inv turn is = record {
  small = rw is (go (ltb (get_or counts q 0) (get_or counts best 0)));
  is = ap (λ (x : ℕ). poorest (λ q. get_or counts q 0) x (parts_in r)) is
      ∙ sym (ap (poorest (λ q. get_or counts q 0) best) turn.parts) ∙ inv.is;
}
  where
    go : (t : Bool) → cond t q best < 64
    go true = turn.below
    go false = inv.small

pub owner_end : (counts : List ℕ) (m best left : ℕ) → OwnerInv counts m best left → left ≡ 0 → (best ≡ poorest_of counts (parts_in m)) × (best < 64)
unfolding poorest
owner_end counts m best left inv z = (sym (ap (poorest (λ q. get_or counts q 0) best) (ap parts_in z ∙ parts_none)) ∙ inv.is, inv.small)

owner_same : (ps : List ℕ) (counts : List ℕ) (S : Set) → ((q : ℕ) → In q ps → get_or counts q 0 ≡ objects_in (parts_of S) q) → poorest_of counts ps ≡ owner_among (parts_of S) ps
unfolding poorest_of owner_among
owner_same [] counts S h = refl
owner_same (p ∷ qs) counts S h = poorest-same (λ q. get_or counts q 0) (objects_in (parts_of S)) p qs (h p (inl refl)) (λ q i. h q (inr i))

-- the poorest by the table of counts is the owner, for a set of parts that are there
pub counted_owner : {b counts : List ℕ} → Counted b counts → (m : ℕ) → m < 2 ^ length (set_in b) → poorest_of counts (parts_in m) ≡ owner_among (parts_of (set_in b)) (parts_in m)
counted_owner {b} {counts} c m h =
    owner_same (parts_in m) counts (set_in b) (λ q i. c.entry q (has_lt (length (set_in b)) m q h (parts_in_in m q i).1))

-- ---- the judgement of a row

module _ {b offs starts counts : List ℕ} {n : ℕ} (index : Indexed b offs starts n) (y : T (are_bytes b)) (pass : PassedAhead Owner (set_in b)) (counted : Counted b counts)
    (p s : ℕ) (h : s < length (get_or (set_in b) p [])) where
  abbrev S : Set
  S = set_in b

  f : Copied S
  f = copied index y (λ rule k. pass rule (omega arith)) (omega (arith, part_there index p s h))

  abbrev o : ℕ
  o = get_or offs (get_or starts p 0 + s) 0

  is_row : row S p s ≡ row_from b o
  unfolding row_at
  is_row = index.row p s h

  mask_read : u64_at b (o + 8) ≡ (row S p s).mask
  mask_read = sym (ap (λ (r : Row). r.mask) is_row ∙ row_mask b o)

  mask_some : 0 < u64_at b (o + 8)
  mask_some = go (u64_at b (o + 8)) refl
    where
      go : (m : ℕ) → u64_at b (o + 8) ≡ m → 0 < m
      go zero e =
          absurd (subst (λ (qs : List ℕ). In p qs) (ap parts_in (sym mask_read ∙ e) ∙ parts_none)
          (in_parts_in (row S p s).mask p (omega (arith, part_there index p s h, index.few)) (row-fields S f p s h).own))
      go (suc m) e = omega arith

  -- by what is read
  module _ (at mask : ℕ) (ea : at ≡ o) (em : mask ≡ u64_at b (at + 8)) where
    is_mask : mask ≡ u64_at b (o + 8)
    is_mask = em ∙ ap (λ (k : ℕ). u64_at b (k + 8)) ea

    pub owner_asked : (0 < mask) × (64 ≤ length counts)
    owner_asked = (rw is_mask mask_some, counted.room)

    pub owner_judged : (w r : ℕ) → w ≡ u8_at b (at + 5) → r ≡ poorest_of counts (parts_in mask) → eqb w r ≡ judged Owner S p s
    unfolding judged owned_well row_at
    owner_judged w r e is =
        ap₂ (λ (x y : ℕ). eqb x y) (e ∙ ap (λ (k : ℕ). u8_at b (k + 5)) ea ∙ sym (row_owner b o) ∙ ap (λ (x : Row). x.owner) (sym is_row))
        (is ∙ ap (λ (m : ℕ). poorest_of counts (parts_in m)) (is_mask ∙ mask_read) ∙ counted_owner counted (row S p s).mask (row-fields S f p s h).mask)
