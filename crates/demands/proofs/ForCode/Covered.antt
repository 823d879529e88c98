-- Rule 11, the objects and their counts in a form that costs a row O(1): by rows that some row of their own part has on its boundary.
-- How code uses it: after rules 7 to 10 one pass over the rows sets a bit at each slot that a body names; a row is covered where its bit is set.
-- Rule 11 is then "in one part, or covered in every part of its set" (`resides_covered`). After rule 11 a row is an object exactly where it is not
-- covered (`row_object`), and a part's objects, for rule 12, are its rows that are not (`part-objects`).
-- Assumes nothing.
use Prim.Native.Nat.{ℕ, ◌^◌, ◌<◌}
use native.Mathlib.Omega.{arith}
use mathlib.Core.Path.{◌≡◌, refl, sym, ap, ◌∙◌, subst}
use mathlib.Core.Bool.{Bool, not, ◌||◌}
use mathlib.Core.Logic.{◌⊎◌, inl, inr}
use mathlib.Core.List.{List, [], ◌∷◌}
use lib.ListN.{length, get_or}
use lib.Dec.{T, eqb, eqb→eq, T_not, not_T}
use Rattle.laws.specs.Lists.{In, every, some?, keep, flat}
use Rattle.part_set.specs.Masks.{has, count, parts_in, mask_of}
use Rattle.paper.specs.Image.{Row, Set, no_row, row_at}
use Rattle.paper.specs.Mesh.{Entity, Parts, name, bounds, is_object, holds, ent_of, parts_of, objects_in}
use Rattle.paper.specs.Sound.{name_of_row, rows_above, residence, resides_well}
use Rattle.laws.proofs.Tests.{or_either, or_l, or_r, iff_eq}
use Rattle.laws.proofs.Members.{get_or_in, in_get_or, every_in, in_every, some_in, in_some, in_flat}
use Rattle.demands.proofs.Entities.Names.{not_object}
use Rattle.part_set.proofs.MaskBits.{has_mask_of, mask_of_is}
use Rattle.laws.proofs.Ascending.{only_one}
use Rattle.part_set.proofs.MaskParts.{has_lt, mask_of_lt, parts_in_in, in_parts_in}
use Rattle.demands.proofs.Entities.Closed.{Closed, closed_down}
use Rattle.demands.proofs.Entities.Fits.{EntOk, fits_closed}
use Rattle.demands.proofs.Fit.Record.{Fit}
use Rattle.demands.proofs.Sound.Facts.{Copied, Each}
use Rattle.demands.proofs.Sound.Rows.{ent, part_in, in_part_lem, row-fields, held-has, has_in, row, parts_at}
use Rattle.demands.proofs.Sound.Above.{above_in, in_above, some_res}
use Rattle.demands.proofs.Sound.ToFit.{ent_ok, small_part, resided_fit}
use Rattle.laws.proofs.Agree.{keep_agree, some_of_map, keep_of_map}
use lib.ListN.{length-map}

-- some row of part q has k on its boundary
unfoldable pub covered : Set → ℕ → ℕ → Bool
covered S q k = some? (λ r. bounds k (ent_of (get_or S q []) r)) (get_or S q [])

pub covered-row : (S : Set) (q k : ℕ) → T (covered S q k) → (t : ℕ) × (t < length (get_or S q [])) × T (bounds k (ent S q t))
unfolding covered
covered-row S q k t =
    let rows = get_or S q [] in
    let w = some_in (λ r. bounds k (ent_of rows r)) rows t in
    let v = in_get_or rows w.0 no_row w.1 in
    (v.0, v.1, subst (λ (r : Row). T (bounds k (ent_of rows r))) v.2 w.2)

pub row-covered : (S : Set) (q k t : ℕ) → t < length (get_or S q []) → T (bounds k (ent S q t)) → T (covered S q k)
unfolding covered
row-covered S q k t h b = let rows = get_or S q [] in in_some (λ r. bounds k (ent_of rows r)) rows (get_or rows t no_row) (get_or_in rows t no_row h) b

-- ---- rule 11, for a set that passes rules 7 to 10

module _ (S : Set) (f : Copied S) where
  part_closed : (q : ℕ) → Closed (get_or (parts_of S) q [])
  part_closed q =
      fits_closed (get_or (parts_of S) q []) (λ e i. let w = part_in S q e i in subst (EntOk (get_or (parts_of S) q [])) (sym w.2) (ent_ok S f q w.0 w.1))

  -- what a row names on its boundary is held by the row's part
  down : (q t k : ℕ) → t < length (get_or S q []) → T (bounds k (ent S q t)) → T (holds (get_or (parts_of S) q []) k)
  down q t k h b = closed_down (get_or (parts_of S) q []) (part_closed q) k (ent S q t) (in_part_lem S q t h) b

  module _ (p s : ℕ) (h : s < length (get_or S p [])) where
    k : ℕ
    k = name (ent S p s)

    m : ℕ
    m = (row S p s).mask

    own_in : In p (parts_in m)
    unfolding m
    own_in = in_parts_in m p (small_part S f p (ent S p s) (in_part_lem S p s h)) (row-fields S f p s h).own

    mask_has : (q : ℕ) → T (has m q) → In q (parts_in m)
    unfolding m
    mask_has q t =
        let l = has_lt (length S) m q (row-fields S f p s h).mask t in
        in_parts_in m q (omega (arith, f.few_parts)) t

    -- a row above is in a part of the set
    above-has : (a : Row) → In a (rows_above S k) → (q : ℕ) × T (has a.mask q) × T (has m q) × T (covered S q k)
    unfolding k m
    above-has a i =
        let w = above_in S k a i in
        let q = w.0 in (
          q,
          subst (λ (r : Row). T (has r.mask q)) (sym w.3) (row-fields S f q w.1 w.2).own,
          held-has S f p s q h (down q w.1 k w.2 w.4),
          row-covered S q k w.1 w.2 w.4,
        )

    -- a part of the set of a row above is a part of the set, and has k on a boundary of its own
    above_spreads : (a : Row) → In a (rows_above S k) → (q : ℕ) → T (has a.mask q) → T (has m q) × T (covered S q k)
    unfolding k m
    above_spreads a i q t =
        let w = above_in S k a i in
        let j = has_in S f w.0 w.1 q w.2 (subst (λ (r : Row). T (has r.mask q)) w.3 t) in
        let v = part_in S q (ent S w.0 w.1) j in
        let b = subst (λ (e : Entity). T (bounds k e)) v.2 w.4 in
        (held-has S f p s q h (down q v.0 k v.1 b), row-covered S q k v.0 v.1 b)

    covers_row : (q : ℕ) → T (covered S q k) → (a : Row) × In a (rows_above S k) × T (has a.mask q)
    unfolding k
    covers_row q t =
        let w = covered-row S q k t in
        (row S q w.0, in_above S k q w.0 w.1 w.2, (row-fields S f q w.0 w.1).own)

    to : (rs : List Row) → rows_above S k ≡ rs → T (residence (length S) m rs) → T (eqb (count m) 1 || every (λ q. covered S q k) (parts_in m))
    unfolding residence
    to [] e t = or_l (eqb (count m) 1) (every (λ q. covered S q k) (parts_in m)) t
    to (r ∷ rs) e t =
        or_r (eqb (count m) 1) (every (λ q. covered S q k) (parts_in m)) (in_every (λ q. covered S q k) (parts_in m) (λ q i.
        let u = eqb→eq m (mask_of (length S) (λ q. some? (λ a. has a.mask q) (r ∷ rs))) t in
        let hm = (parts_in_in m q i).1 in
        let l = has_lt (length S) m q (subst (λ (z : ℕ). z < 2 ^ length S) (sym u) (mask_of_lt (length S) (λ q. some? (λ a. has a.mask q) (r ∷ rs)))) hm in
        let some : T (some? (λ a. has a.mask q) (r ∷ rs)) = subst T (ap (λ (z : ℕ). has z q) u ∙ has_mask_of (length S) q (λ q. some? (λ a. has a.mask q) (r ∷ rs)) l) hm in
        let w = some_in (λ a. has a.mask q) (r ∷ rs) some in
        (above_spreads w.0 (subst (λ (x : List Row). In w.0 x) (sym e) w.1) q w.2).1))

    union : (a : Row) → In a (rows_above S k) → T (eqb (count m) 1) ⊎ T (every (λ q. covered S q k) (parts_in m))
        → (q : ℕ) → T (has m q) → T (some? (λ a. has a.mask q) (rows_above S k))
    unfolding count
    union a i (inl t) q g =
        let w = above-has a i in
        let e : w.0 ≡ q = only_one (parts_in m) (eqb→eq (length (parts_in m)) 1 t) w.0 q (mask_has w.0 w.2) (mask_has q g) in
        in_some (λ a. has a.mask q) (rows_above S k) a i (subst (λ (z : ℕ). T (has a.mask z)) e w.1)
    union a i (inr t) q g =
        let w = covers_row q (every_in (λ q. covered S q k) (parts_in m) t q (mask_has q g)) in
        in_some (λ a. has a.mask q) (rows_above S k) w.0 w.1 w.2

    fro : (rs : List Row) → rows_above S k ≡ rs → T (eqb (count m) 1) ⊎ T (every (λ q. covered S q k) (parts_in m)) → T (residence (length S) m (rows_above S k))
    fro [] e (inl t) = subst (λ (rs : List Row). T (residence (length S) m rs)) (sym e) (unfold residence in t)
    fro [] e (inr t) =
        let w = covers_row p (every_in (λ q. covered S q k) (parts_in m) t p own_in) in absurd (subst (λ (rs : List Row). In w.0 rs) e w.1)
    fro (r ∷ rs) e t =
        let i : In r (rows_above S k) = subst (λ (x : List Row). In r x) (sym e) (inl refl) in
        let g : ℕ → Bool = λ q. some? (λ a. has a.mask q) (rows_above S k) in
        some_res (length S) m (rows_above S k) r i (sym (mask_of_is (length S) m g small
        (λ q y. let w = some_in (λ a. has a.mask q) (rows_above S k) y in (above_spreads w.0 w.1 q w.2).0) (union r i t)))
      where
        small : m < 2 ^ length S
        small = unfold m in (row-fields S f p s h).mask

    at : residence (length S) m (rows_above S k) ≡ (eqb (count m) 1 || every (λ q. covered S q k) (parts_in m))
    at =
        iff_eq (residence (length S) m (rows_above S k)) (eqb (count m) 1 || every (λ q. covered S q k) (parts_in m)) (to (rows_above S k) refl)
        (λ t. fro (rows_above S k) refl (or_either (eqb (count m) 1) (every (λ q. covered S q k) (parts_in m)) t))

  -- in one part, or on a boundary in every part of its set
  pub resides_covered : (p s : ℕ) → s < length (get_or S p []) → let r = row_at S p s in
      resides_well S p s ≡ (eqb (count r.mask) 1 || every (λ q. covered S q (name_of_row r)) (parts_in r.mask))
  unfolding resides_well row_at k m ent_of
  resides_covered p s h = at p s h

-- ---- objects, for parts that fit

module _ (ps : Parts) (F : Fit ps) where
  pub object_uncovered : (p : ℕ) (e : Entity) → In e (get_or ps p []) → is_object (flat ps) (name e) ≡ not (some? (bounds (name e)) (get_or ps p []))
  object_uncovered p e i =
      iff_eq (is_object (flat ps) (name e)) (not (some? (bounds (name e)) (get_or ps p [])))
      (λ t. not_T (some? (bounds (name e)) (get_or ps p [])) (λ s.
      let w = some_in (bounds (name e)) (get_or ps p []) s in not_object (flat ps) (name e) w.0 (in_flat ps p w.0 w.1) w.2 t))
      (λ n. go n (F.resides p e i))
    where
      go : T (not (some? (bounds (name e)) (get_or ps p []))) → T (is_object (flat ps) (name e)) ⊎ ((g : Entity) × In g (get_or ps p []) × T (bounds (name e) g)) → T (is_object (flat ps) (name e))
      go n (inl t) = t
      go n (inr g) = absurd (T_not (some? (bounds (name e)) (get_or ps p [])) n (in_some (bounds (name e)) (get_or ps p []) g.0 g.1 g.2))

  pub objects_uncovered : (p : ℕ) → objects_in ps p ≡ length (keep (λ e. not (some? (bounds (name e)) (get_or ps p []))) (get_or ps p []))
  unfolding objects_in
  objects_uncovered p =
      ap length (keep_agree (λ e. is_object (flat ps) (name e)) (λ e. not (some? (bounds (name e)) (get_or ps p []))) (get_or ps p []) (object_uncovered p))

-- ---- objects, for a set that passes rules 7 to 11

covered-part : (S : Set) (p k : ℕ) → some? (bounds k) (get_or (parts_of S) p []) ≡ covered S p k
unfolding covered
covered-part S p k = ap (some? (bounds k)) (parts_at S p) ∙ some_of_map (bounds k) (ent_of (get_or S p [])) (get_or S p [])

module _ (S : Set) (f : Copied S) (resides : Each S (λ p s. T (resides_well S p s))) where
  -- a row is an object exactly where no row of its part has it on its boundary
  pub row_object : (p s : ℕ) → s < length (get_or S p []) → is_object (flat (parts_of S)) (name_of_row (row_at S p s)) ≡ not (covered S p (name_of_row (row_at S p s)))
  unfolding row_at ent_of
  row_object p s h =
      object_uncovered (parts_of S) (resided_fit S f resides) p (ent S p s) (in_part_lem S p s h) ∙ ap not (covered-part S p (name (ent S p s)))

  -- and the objects of a part are counted so
  pub part-objects : (p : ℕ) → objects_in (parts_of S) p ≡ length (keep (λ r. not (covered S p (name_of_row r))) (get_or S p []))
  unfolding ent_of
  part-objects p =
      let rows = get_or S p [] in
      let open' : Entity → Bool = λ e. not (some? (bounds (name e)) (get_or (parts_of S) p [])) in
      objects_uncovered (parts_of S) (resided_fit S f resides) p
      ∙ ap (λ (es : List Entity). length (keep open' es)) (parts_at S p)
      ∙ ap length (keep_of_map open' (ent_of rows) rows)
      ∙ length-map (keep (λ r. open' (ent_of rows r)) rows) (ent_of rows)
      ∙ ap length (keep_agree (λ r. open' (ent_of rows r)) (λ r. not (covered S p (name_of_row r))) rows (λ r _. ap not (covered-part S p (name_of_row r))))
