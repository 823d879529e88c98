-- Rule 10 in a form that costs a row O(1): no search in every part for "every part that holds the entity is in the set".
-- How code uses it: after rules 7 and 8 it tests each row's twins (O(1) each, through the remote slots). Rows that are the lowest copy of their
-- set are then merged by name over the parts; where no two of them have one name, `copies_by_lowest` gives rule 10 for every row. Otherwise the
-- set is refused, and the exact scan finds the place.
-- Assumes nothing.
use Prim.Native.Nat.{ℕ, ◌<◌, ◌≤◌}
use mathlib.Core.Path.{◌≡◌, refl, sym, ap, ◌∙◌, subst}
use mathlib.Core.Bool.{not, ◌||◌}
use mathlib.Core.Logic.{◌⊎◌, inl, inr}
use mathlib.Core.List.{[], map}
use lib.ListN.{length, get_or, length-map}
use lib.Dec.{T, eqb, ltb, ltb→lt, eqb→eq, T_not}
use Rattle.laws.specs.Lists.{In, every, ascending, up_to, member, index_of, same}
use Rattle.part_set.specs.Masks.{has, parts_in, others}
use Rattle.paper.specs.Image.{Set, no_row, row_at}
use Rattle.paper.specs.Mesh.{name, same_ent, ent_of}
use Rattle.paper.specs.Sound.{name_of_row, remote_slot_of, twin_agrees}
use Rattle.laws.proofs.Tests.{split4, split5, decide, or_l, or_r, eq-eqb, both}
use Rattle.laws.proofs.Members.{every_in, in_every, member_in, map_in, in_get_or}
use Rattle.laws.proofs.Agree.{get_or_map}
use Rattle.laws.proofs.Ascending.{least}
use Rattle.laws.proofs.Places.{index_get_or}
use Rattle.part_set.proofs.MaskParts.{parts_in_in, in_parts_in, parts_in_ascends, in_others}
use Rattle.demands.proofs.Sound.Facts.{Each}
use Rattle.demands.proofs.Sound.Rows.{row}
use Rattle.paper.specs.Sound.{copies_agree}

-- the row is the lowest copy of its set
abbrev pub Low : Set → ℕ → ℕ → Type 0
Low S p s = (q : ℕ) → In q (parts_in (row S p s).mask) → p ≤ q

-- the copy of a row in the part q of its set, which may be the row itself
pub record Copy (S : Set) (p s q : ℕ) : Type 0 where
  pub slot : ℕ
  pub there : slot < length (get_or S q [])
  pub named : name_of_row (row S q slot) ≡ name_of_row (row S p s)
  pub masked : (row S q slot).mask ≡ (row S p s).mask

pub record LowCopy (S : Set) (p s : ℕ) : Type 0 where
  pub part : ℕ
  pub copied : Copy S p s part
  pub low : Low S part copied.slot

-- own bits are there (7), names ascend (8), and all twins agree (the first half of 10)
module _ (S : Set) (own : Each S (λ p s. (p < 64) × T (has (row S p s).mask p))) (ascends : (p : ℕ) → T (ascending (map name_of_row (get_or S p []))))
    (twins : Each S (λ p s. T (every (twin_agrees S p s) (others (row S p s).mask p)))) where
  twin_copy : (p s q : ℕ) → s < length (get_or S p []) → In q (others (row S p s).mask p) → Copy S p s q
  unfolding twin_agrees row_at same_ent ent_of
  twin_copy p s q h i =
      let r = row S p s in
      let t = remote_slot_of r p q in
      let w = row S q t in
      let e = ent_of (get_or S p []) r in
      let g = ent_of (get_or S q []) w in
      let a = split5 (ltb t (length (get_or S q []))) (same_ent e g) (eqb r.mask w.mask) (eqb r.owner w.owner) (eqb (remote_slot_of w q p) s)
      (every_in (twin_agrees S p s) (others r.mask p) (twins p s h) q i) in
      let c = split4 (eqb (name e) (name g)) (eqb e.kind g.kind) (eqb e.value g.value) (same e.shape g.shape) a.1 in
      record {
        slot = t;
        there = ltb→lt t (length (get_or S q [])) a.0;
        named = sym (eqb→eq (name_of_row r) (name_of_row w) c.0);
        masked = sym (eqb→eq r.mask w.mask a.2);
      }

  copy : (p s q : ℕ) → s < length (get_or S p []) → q < 64 → T (has (row S p s).mask q) → Copy S p s q
  copy p s q h l t = go (decide (eqb q p))
    where
      go : T (eqb q p) ⊎ T (not (eqb q p)) → Copy S p s q
      go (inl e) = subst (Copy S p s) (sym (eqb→eq q p e)) (record { slot = s; there = h; named = refl; masked = refl })
      go (inr n) = twin_copy p s q h (in_others (row S p s).mask p q l t (λ e. T_not (eqb q p) n (eq-eqb q p e)))

  low_copy : (p s : ℕ) → s < length (get_or S p []) → LowCopy S p s
  low_copy p s h =
      let m = (row S p s).mask in
      let o = own p s h in
      let w = least (parts_in m) (parts_in_ascends m) p (in_parts_in m p o.0 o.1) in
      let v = parts_in_in m w.0 w.1 in
      let c = copy p s w.0 h v.0 v.1 in
      record { part = w.0; copied = c; low = λ q i. w.2 q (subst (λ (z : ℕ). In q (parts_in z)) c.masked i) }

  -- rows of one part with one name are one row
  one_slot : (p s t : ℕ) → s < length (get_or S p []) → t < length (get_or S p []) → name_of_row (row S p s) ≡ name_of_row (row S p t) → s ≡ t
  one_slot p s t hs ht e =
      let rows = get_or S p [] in
      let n = length-map rows name_of_row in
      let at : (i : ℕ) → i < length rows → index_of (name_of_row (get_or rows i no_row)) (map name_of_row rows) ≡ i = λ i h.
      ap (λ (k : ℕ). index_of k (map name_of_row rows)) (sym (get_or_map name_of_row rows i no_row 0 h))
      ∙ index_get_or (map name_of_row rows) (ascends p) i (subst (λ (z : ℕ). i < z) (sym n) h) in
      sym (at s hs) ∙ ap (λ (k : ℕ). index_of k (map name_of_row rows)) e ∙ at t ht

  -- and no two lowest copies have one name
  module _ (distinct : (p s q t : ℕ) → s < length (get_or S p []) → t < length (get_or S q []) → Low S p s → Low S q t
      → name_of_row (row S p s) ≡ name_of_row (row S q t) → p ≡ q) where
    same_mask : (p s q t : ℕ) → s < length (get_or S p []) → t < length (get_or S q []) → name_of_row (row S p s) ≡ name_of_row (row S q t)
        → (row S p s).mask ≡ (row S q t).mask
    same_mask p s q t hs ht e =
        let a = low_copy p s hs in
        let b = low_copy q t ht in
        let names = a.copied.named ∙ e ∙ sym b.copied.named in
        let parts : a.part ≡ b.part = distinct a.part a.copied.slot b.part b.copied.slot a.copied.there b.copied.there a.low b.low names in
        sym a.copied.masked ∙ meet a.part b.part a.copied.slot b.copied.slot parts a.copied.there b.copied.there names ∙ b.copied.masked
      where
        meet : (x y i j : ℕ) → x ≡ y → i < length (get_or S x []) → j < length (get_or S y []) → name_of_row (row S x i) ≡ name_of_row (row S y j)
            → (row S x i).mask ≡ (row S y j).mask
        meet x y i j p hi hj e =
            let hi' = subst (λ (z : ℕ). i < length (get_or S z [])) p hi in
            let e' = subst (λ (z : ℕ). name_of_row (row S z i) ≡ name_of_row (row S y j)) p e in
            ap (λ (z : ℕ). (row S z i).mask) p ∙ ap (λ (z : ℕ). (row S y z).mask) (one_slot y i j hi' hj e')

    -- the second half of rule 10
    pub every_holder : (p s : ℕ) → s < length (get_or S p []) → let r = row S p s in
        T (every (λ q. not (member (name_of_row r) (map name_of_row (get_or S q []))) || has r.mask q) (up_to (length S)))
    every_holder p s h =
        in_every (λ q. not (member (name_of_row (row S p s)) (map name_of_row (get_or S q []))) || has (row S p s).mask q) (up_to (length S))
        (λ q _. go q (decide (member (name_of_row (row S p s)) (map name_of_row (get_or S q [])))))
      where
        go : (q : ℕ) → T (member (name_of_row (row S p s)) (map name_of_row (get_or S q []))) ⊎ T (not (member (name_of_row (row S p s)) (map name_of_row (get_or S q []))))
            → T (not (member (name_of_row (row S p s)) (map name_of_row (get_or S q []))) || has (row S p s).mask q)
        go q (inr n) = or_l (not (member (name_of_row (row S p s)) (map name_of_row (get_or S q [])))) (has (row S p s).mask q) n
        go q (inl t) =
            let r = row S p s in
            let w = map_in name_of_row (get_or S q []) (name_of_row r) (member_in (name_of_row r) (map name_of_row (get_or S q [])) t) in
            let v = in_get_or (get_or S q []) w.0 no_row w.1 in
            let e : name_of_row r ≡ name_of_row (row S q v.0) = w.2 ∙ ap name_of_row v.2 in
            or_r (not (member (name_of_row r) (map name_of_row (get_or S q [])))) (has r.mask q)
            (subst (λ (m : ℕ). T (has m q)) (sym (same_mask p s q v.0 h v.1 e)) (own q v.0 v.1).1)

    -- the whole of it
    pub copies_by_lowest : Each S (λ p s. T (copies_agree S p s))
    unfolding copies_agree row_at
    copies_by_lowest p s h =
        let r = row S p s in
        both (every (twin_agrees S p s) (others r.mask p)) (every (λ q. not (member (name_of_row r) (map name_of_row (get_or S q []))) || has r.mask q) (up_to (length S)))
        (twins p s h) (every_holder p s h)
