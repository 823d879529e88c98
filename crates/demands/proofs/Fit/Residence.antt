-- Rule 11 of the rows that fitting parts make: an object is in one part, any other entity where what it bounds is.
-- Assumes nothing.
use Prim.Native.Nat.{ℕ, ◌^◌, ◌<◌}
use mathlib.Core.Path.{◌≡◌, sym, ap, ◌∙◌, subst, subst₂}
use mathlib.Core.Bool.{Bool}
use mathlib.Core.Logic.{◌⊎◌, inl, inr}
use mathlib.Core.List.{[]}
use lib.ListN.{length, get_or}
use lib.Dec.{T}
use Rattle.laws.specs.Lists.{In, some?, flat}
use Rattle.part_set.specs.Masks.{has, count, parts_in, mask_of}
use Rattle.paper.specs.Image.{Row, row_at}
use Rattle.paper.specs.Mesh.{Entity, Parts, name, no_ent, bounds, is_object}
use Rattle.paper.specs.Sound.{name_of_row, rows_above, residence, resides_well}
use Rattle.paper.specs.Placement.{residence_in, row_for, rows_for}
use Rattle.laws.proofs.Members.{get_or_in, in_get_or, in_flat, some_in, in_some}
use Rattle.demands.proofs.Entities.Names.{not_object}
use Rattle.part_set.proofs.MaskBits.{mask_of_is}
use Rattle.laws.proofs.Ascending.{one_only}
use Rattle.part_set.proofs.MaskParts.{parts_in_in, parts_in_ascends}
use Rattle.demands.proofs.Fit.Record.{Fit}
use Rattle.demands.proofs.Rows.Made.{rows-count}
use Rattle.demands.proofs.Sound.Rows.{ent, row}
use Rattle.demands.proofs.Sound.Above.{above_in, in_above, some_res, none_res}
use Rattle.demands.proofs.Fit.Rows.{in_rows, row_at_lem, ent_at, residence_lt, has-residence, residence-holds, holds-residence}
use Rattle.demands.proofs.Fit.Fields.{own_bit}
use Rattle.demands.proofs.Fit.Held.{in_held, part_closed}
use Rattle.demands.proofs.Entities.Closed.{closed_down}

module _ (ps : Parts) (F : Fit ps) (few : (p : ℕ) → length (get_or ps p []) < 2 ^ 32) where
  -- a row above k is that of an entity with k on its boundary
  record Above (k : ℕ) (a : Row) : Type 0 where
    part : ℕ
    above : Entity
    there : In above (get_or ps part [])
    bounded : T (bounds k above)
    mask : a.mask ≡ residence_in ps (name above)

  mask_at : (q t : ℕ) → t < length (get_or ps q []) → (row (rows_for ps) q t).mask ≡ residence_in ps (name (get_or (get_or ps q []) t no_ent))
  unfolding row_for
  mask_at q t h = ap (λ (r : Row). r.mask) (row_at_lem ps q t h)

  above_is : (k : ℕ) (a : Row) → In a (rows_above (rows_for ps) k) → Above k a
  above_is k a i =
      let w = above_in (rows_for ps) k a i in
      let q = w.0 in
      let t = w.1 in
      let h : t < length (get_or ps q []) = subst (λ (n : ℕ). t < n) (in_rows ps q) w.2 in
      record {
        part = q;
        above = get_or (get_or ps q []) t no_ent;
        there = get_or_in (get_or ps q []) t no_ent h;
        bounded = subst (λ (x : Entity). T (bounds k x)) (ent_at ps F few q t h) w.4;
        mask = ap (λ (r : Row). r.mask) w.3 ∙ mask_at q t h;
      }

  -- and each such entity has its row there
  is_above : (k q : ℕ) (g : Entity) → In g (get_or ps q []) → T (bounds k g) → (a : Row) × In a (rows_above (rows_for ps) k) × (a.mask ≡ residence_in ps (name g))
  is_above k q g i b =
      let w = in_get_or (get_or ps q []) g no_ent i in
      let t = w.0 in
      let e : ent (rows_for ps) q t ≡ g = ent_at ps F few q t w.1 ∙ sym w.2 in (
        row (rows_for ps) q t,
        in_above (rows_for ps) k q t (subst (λ (n : ℕ). t < n) (sym (in_rows ps q)) w.1) (subst (λ (x : Entity). T (bounds k x)) (sym e) b),
        mask_at q t w.1 ∙ ap (λ (x : Entity). residence_in ps (name x)) (sym w.2),
      )

  one-part : (p : ℕ) (e : Entity) → In e (get_or ps p []) → T (is_object (flat ps) (name e)) → count (residence_in ps (name e)) ≡ 1
  unfolding count
  one-part p e i t =
      let m = residence_in ps (name e) in
      one_only (parts_in m) (parts_in_ascends m) p (own_bit ps F few p e i) (λ q j.
      let v = residence-holds ps (name e) q (parts_in_in m q j).1 in
      F.once q p e (in_held ps F p q e i v.1) i t)

  -- the set of what is not an object is the union of the sets above it
  union : (p : ℕ) (e g : Entity) → In e (get_or ps p []) → In g (get_or ps p []) → T (bounds (name e) g)
      → residence_in ps (name e) ≡ mask_of (length ps) (λ q. some? (λ a. has a.mask q) (rows_above (rows_for ps) (name e)))
  union p e g i j b =
      let f : ℕ → Bool = λ q. some? (λ a. has a.mask q) (rows_above (rows_for ps) (name e)) in
      sym (mask_of_is (length ps) (residence_in ps (name e)) f (residence_lt ps (name e)) fro to)
    where
      to : (q : ℕ) → T (has (residence_in ps (name e)) q) → T (some? (λ a. has a.mask q) (rows_above (rows_for ps) (name e)))
      to q t = go (F.resides q e (in_held ps F p q e i (residence-holds ps (name e) q t).1))
        where
          go : T (is_object (flat ps) (name e)) ⊎ ((x : Entity) × In x (get_or ps q []) × T (bounds (name e) x)) → T (some? (λ a. has a.mask q) (rows_above (rows_for ps) (name e)))
          go (inl o) = absurd (not_object (flat ps) (name e) g (in_flat ps p g j) b o)
          go (inr x) =
              let w = is_above (name e) q x.0 x.1 x.2 in
              in_some (λ a. has a.mask q) (rows_above (rows_for ps) (name e)) w.0 w.1 (subst (λ (m : ℕ). T (has m q)) (sym w.2) (holds-residence ps q x.0 x.1))

      fro : (q : ℕ) → T (some? (λ a. has a.mask q) (rows_above (rows_for ps) (name e))) → T (has (residence_in ps (name e)) q)
      fro q t =
          let w = some_in (λ a. has a.mask q) (rows_above (rows_for ps) (name e)) t in
          let a = above_is (name e) w.0 w.1 in
          let v = residence-holds ps (name a.above) q (subst (λ (m : ℕ). T (has m q)) a.mask w.2) in
          let x : In a.above (get_or ps q []) = in_held ps F a.part q a.above a.there v.1 in
          subst T (sym (has-residence ps (name e) q v.0)) (closed_down (get_or ps q []) (part_closed ps F q) (name e) a.above x a.bounded)

  resides_ent : (p : ℕ) (e : Entity) → In e (get_or ps p []) → T (residence (length ps) (residence_in ps (name e)) (rows_above (rows_for ps) (name e)))
  resides_ent p e i = go (F.resides p e i)
    where
      go : T (is_object (flat ps) (name e)) ⊎ ((g : Entity) × In g (get_or ps p []) × T (bounds (name e) g)) → T (residence (length ps) (residence_in ps (name e)) (rows_above (rows_for ps) (name e)))
      go (inl t) =
          none_res (length ps) (residence_in ps (name e)) (rows_above (rows_for ps) (name e)) (λ a j.
          let w = above_is (name e) a j in not_object (flat ps) (name e) w.above (in_flat ps w.part w.above w.there) w.bounded t) (one-part p e i t)
      go (inr g) =
          let w = is_above (name e) p g.0 g.1 g.2 in
          some_res (length ps) (residence_in ps (name e)) (rows_above (rows_for ps) (name e)) w.0 w.1 (union p e g.0 i g.1 g.2)

  pub row_resides : (p s : ℕ) → s < length (get_or ps p []) → T (resides_well (rows_for ps) p s)
  unfolding resides_well row_at row_for
  row_resides p s h =
      let e = get_or (get_or ps p []) s no_ent in
      subst₂ (λ (n : ℕ) (r : Row). T (residence n r.mask (rows_above (rows_for ps) (name_of_row r)))) (sym (rows-count ps)) (sym (row_at_lem ps p s h))
      (resides_ent p e (get_or_in (get_or ps p []) s no_ent h))
