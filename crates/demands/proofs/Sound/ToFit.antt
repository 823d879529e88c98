-- Sound to Fit: the parts of a sound set fit.
-- Assumes nothing.
use Prim.Native.Nat.{ℕ, zero, suc, ◌^◌, ◌<◌, ◌≤◌}
use native.Mathlib.Omega.{arith}
use mathlib.Core.Path.{◌≡◌, refl, sym, ap, ◌∙◌, subst}
use mathlib.Core.Bool.{◌&&◌}
use mathlib.Core.Logic.{◌⊎◌, inl, inr}
use mathlib.Core.List.{List, [], map}
use lib.ListN.{length, get_or, length-map}
use lib.Dec.{T, eqb, ltb}
use Rattle.laws.specs.Lists.{In, every, some?, flat}
use Rattle.field.specs.Bytes.{words, longs, finite}
use Rattle.part_set.specs.Masks.{has, parts_in, count}
use Rattle.paper.specs.Image.{Row, Set, no_row, row_at}
use Rattle.paper.specs.Mesh.{Entity, name_of, name, bounds, is_object, slots_of, shape_of, ent_of, parts_of, holds, simplex}
use Rattle.paper.specs.Sound.{body_fitting, slots_stand, boundary_stands, rows_above, residence, resides_well}
use Rattle.paper.specs.Placement.{shape_fits}
use Rattle.laws.proofs.Tests.{split2, both, eq-eqb}
use Rattle.laws.proofs.Members.{map_in, every_in, in_every, some_in, in_flat, flat_in, part_lt}
use Rattle.demands.proofs.Entities.Names.{in_holds, not_object, object_or}
use Rattle.part_set.proofs.MaskBits.{has_mask_of}
use Rattle.laws.proofs.Ascending.{asc_map, asc_get_or, only_one}
use Rattle.part_set.proofs.MaskParts.{has_lt, in_parts_in}
use Rattle.demands.proofs.Rows.Bytes.{length-longs, longs_small}
use Rattle.demands.proofs.Entities.Fits.{EntOk, of_faces}
use Rattle.demands.proofs.Fit.Record.{Fit}
use Rattle.demands.proofs.Sound.Facts.{Copied, Sound, Each}
use Rattle.demands.proofs.Sound.Rows.{ent, parts_at, parts_count, part_in, in_part_lem, name_at, names_count, row-fields, row_wide, number_lt, names_ascend, held-has, has_in, agree, row}
use Rattle.demands.proofs.Sound.Slots.{SlotsOk, slots_of_lem}
use Rattle.demands.proofs.Sound.Above.{above_in, in_above, res_some, res_none}
use Rattle.field.proofs.Reading.{length-words}

module _ (S : Set) (f : Copied S) where
  pub row-slots : (p s d : ℕ) → s < length (get_or S p []) → (row S p s).dim ≡ suc d
      → SlotsOk (get_or S p []) d (words (suc (suc d)) (row S p s).body)
  unfolding boundary_stands row_at
  row-slots p s d h e =
      let rows = get_or S p [] in
      let r = get_or rows s no_row in
      slots_of_lem rows r d e (split2 (slots_stand rows r) (simplex (map (ent_of rows) rows) r.dim r.number (shape_of rows r.dim r.body)) (f.boundary p s h)).0

  row-simplex : (p s : ℕ) → s < length (get_or S p []) → T (simplex (get_or (parts_of S) p []) (ent S p s).dim (ent S p s).number (ent S p s).shape)
  unfolding boundary_stands row_at ent_of
  row-simplex p s h =
      let rows = get_or S p [] in
      let r = get_or rows s no_row in
      subst (λ (es : List Entity). T (simplex es r.dim r.number (shape_of rows r.dim r.body))) (sym (parts_at S p))
      (split2 (slots_stand rows r) (simplex (map (ent_of rows) rows) r.dim r.number (shape_of rows r.dim r.body)) (f.boundary p s h)).1

  -- of two rows of one dimension the later has the greater number
  numbers_ascend : (p a b d : ℕ) → a < b → a < length (get_or S p []) → b < length (get_or S p []) → (row S p a).dim ≡ d → (row S p b).dim ≡ d
      → (row S p a).number < (row S p b).number
  unfolding ent_of
  numbers_ascend p a b d l ha hb da db =
      omega (arith, asc_get_or (map name (get_or (parts_of S) p [])) (names_ascend S f p) a b l (subst (λ (n : ℕ). b < n) (sym (names_count S p)) hb), name_at S p a ha, name_at S p b hb)

  -- the entity at a slot, held by its name
  slot_held : (p t d : ℕ) → t < length (get_or S p []) → (row S p t).dim ≡ d → T (holds (get_or (parts_of S) p []) (name_of d (row S p t).number))
  unfolding ent_of
  slot_held p t d h e =
      subst (λ (z : ℕ). T (holds (get_or (parts_of S) p []) (name_of z (row S p t).number))) e (in_holds (get_or (parts_of S) p []) (ent S p t) (in_part_lem S p t h))

  shape_fits_lem : (p s : ℕ) → s < length (get_or S p []) → (d : ℕ) → (row S p s).dim ≡ d
      → T (shape_fits (get_or (parts_of S) p []) d (shape_of (get_or S p []) d (row S p s).body))
  unfolding shape_fits shape_of body_fitting slots_of ent_of
  shape_fits_lem p s h zero e =
      let r = row S p s in
      let xs = longs 3 r.body in
      let fin = subst (λ (d : ℕ). T (body_fitting d r.body)) e (row-fields S f p s h).body in
      both (eqb (length xs) 3) (every (λ x. ltb x (2 ^ 64) && finite x) xs) (eq-eqb (length xs) 3 (length-longs 3 r.body))
      (in_every (λ x. ltb x (2 ^ 64) && finite x) xs (λ x i.
      both (ltb x (2 ^ 64)) (finite x) (every_in (λ x. ltb x (2 ^ 64)) xs (longs_small 3 r.body (row_wide S f p s h).body) x i) (every_in finite xs fin x i)))
  shape_fits_lem p s h (suc d) e =
      let rows = get_or S p [] in
      let r = get_or rows s no_row in
      let fs = words (suc (suc d)) r.body in
      let num : ℕ → ℕ = λ t. (get_or rows t no_row).number in
      let o = row-slots p s d h e in
      let n = length-map fs num in
      of_faces (get_or (parts_of S) p []) d (map num fs) (record {
        count = omega (arith, n, length-words (suc (suc d)) r.body);
        ascends = asc_map num fs (λ a b i j l. numbers_ascend p a b d l (o.there a i).0 (o.there b j).0 (o.there a i).1 (o.there b j).1) o.ascends;
        held = λ j i.
            let w = map_in num fs j i in
            let v = o.there w.0 w.1 in (
              subst (λ (z : ℕ). z < 2 ^ 32) (sym w.2) (number_lt S f p w.0 v.0),
              subst (λ (z : ℕ). T (holds (get_or (parts_of S) p []) (name_of d z))) (sym w.2) (slot_held p w.0 d v.0 v.1),
            );
      })

  pub ent_ok : (p s : ℕ) → s < length (get_or S p []) → EntOk (get_or (parts_of S) p []) (ent S p s)
  unfolding ent_of
  ent_ok p s h =
      let k = row-fields S f p s h in
      let w = row_wide S f p s h in
      record {
        dim = k.dim;
        number = w.row.number;
        kind = k.kind;
        value = w.row.value;
        fits = k.value;
        shape = shape_fits_lem p s h (row S p s).dim refl;
        simple = row-simplex p s h;
      }

  pub small_part : (p : ℕ) (e : Entity) → In e (get_or (parts_of S) p []) → p < 64
  small_part p e i = omega (arith, part_lt (parts_of S) p e i, parts_count S, f.few_parts)

module _ (S : Set) (f : Copied S) (r : Each S (λ p s. T (resides_well S p s))) where
  row-residence : (p s : ℕ) → s < length (get_or S p []) → T (residence (length S) (row S p s).mask (rows_above S (name (ent S p s))))
  unfolding resides_well row_at ent_of
  row-residence p s h = r p s h

  -- what is on a boundary is on that of an entity of some part, with its row
  once_at : (p q s : ℕ) → s < length (get_or S p []) → In (ent S p s) (get_or (parts_of S) q []) → T (is_object (flat (parts_of S)) (name (ent S p s))) → p ≡ q
  unfolding count
  once_at p q s h j t =
      let k = name (ent S p s) in
      let m = (row S p s).mask in
      let one = res_none (length S) m (rows_above S k) (λ a i.
      let w = above_in S k a i in
      not_object (flat (parts_of S)) k (ent S w.0 w.1) (in_flat (parts_of S) w.0 (ent S w.0 w.1) (in_part_lem S w.0 w.1 w.2)) w.4 t) (row-residence p s h) in
      only_one (parts_in m) one p q (in_parts_in m p (small_part S f p (ent S p s) (in_part_lem S p s h)) (row-fields S f p s h).own)
      (in_parts_in m q (small_part S f q (ent S p s) j) (held-has S f p s q h (in_holds (get_or (parts_of S) q []) (ent S p s) j)))

  resides_at : (p s : ℕ) → s < length (get_or S p []) → T (is_object (flat (parts_of S)) (name (ent S p s))) ⊎ ((g : Entity) × In g (get_or (parts_of S) p []) × T (bounds (name (ent S p s)) g))
  resides_at p s h = go (object_or (flat (parts_of S)) (name (ent S p s)))
    where
      go : T (is_object (flat (parts_of S)) (name (ent S p s))) ⊎ ((g : Entity) × In g (flat (parts_of S)) × T (bounds (name (ent S p s)) g))
          → T (is_object (flat (parts_of S)) (name (ent S p s))) ⊎ ((g : Entity) × In g (get_or (parts_of S) p []) × T (bounds (name (ent S p s)) g))
      go (inl t) = inl t
      go (inr g) =
          let k = name (ent S p s) in
          let m = (row S p s).mask in
          let v = flat_in (parts_of S) g.0 g.1 in
          let w = part_in S v.0 g.0 v.2 in
          let i = in_above S k v.0 w.0 w.1 (subst (λ (x : Entity). T (bounds k x)) w.2 g.2) in
          let union = res_some (length S) m (rows_above S k) (row S v.0 w.0) i (row-residence p s h) in
          let own = (row-fields S f p s h).own in
          let l : p < length S = has_lt (length S) m p (row-fields S f p s h).mask own in
          let t : T (some? (λ a. has a.mask p) (rows_above S k)) =
          subst T (ap (λ (z : ℕ). has z p) union ∙ has_mask_of (length S) p (λ q. some? (λ a. has a.mask q) (rows_above S k)) l) own in
          let a = some_in (λ a. has a.mask p) (rows_above S k) t in
          let b = above_in S k a.0 a.1 in
          inr (ent S b.0 b.1, has_in S f b.0 b.1 p b.2 (subst (λ (x : Row). T (has x.mask p)) b.3 a.2), b.4)

  -- rules 7 to 11 are enough
  pub resided_fit : Fit (parts_of S)
  resided_fit =
      record {
        some_part = subst (λ (n : ℕ). 0 < n) (sym (parts_count S)) f.some_part;
        few_parts = subst (λ (n : ℕ). n ≤ 64) (sym (parts_count S)) f.few_parts;
        ascends = names_ascend S f;
        agree = agree S f;
        fits = λ p e i. let w = part_in S p e i in subst (EntOk (get_or (parts_of S) p [])) (sym w.2) (ent_ok S f p w.0 w.1);
        once = λ p q e i j t.
            let w = part_in S p e i in
            once_at p q w.0 w.1 (subst (λ (x : Entity). In x (get_or (parts_of S) q [])) w.2 j) (subst (λ (x : Entity). T (is_object (flat (parts_of S)) (name x))) w.2 t);
        resides = λ p e i.
            let w = part_in S p e i in
            subst (λ (x : Entity). T (is_object (flat (parts_of S)) (name x)) ⊎ ((g : Entity) × In g (get_or (parts_of S) p []) × T (bounds (name x) g))) (sym w.2) (resides_at p w.0 w.1);
      }

pub sound_fit : (S : Set) → Sound S → Fit (parts_of S)
sound_fit S f = resided_fit S f.copied f.residence
