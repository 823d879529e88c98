-- Rule 7 of the rows that fitting parts make: each field has its width and its layout.
-- Assumes nothing.
use Prim.Native.Nat.{ℕ, zero, suc, ◌+◌, ◌-◌, ◌*◌, ◌^◌, ◌<◌, ◌≤◌}
use native.Mathlib.Omega.{arith}
use mathlib.Core.Path.{◌≡◌, refl, sym, ap, ◌∙◌, subst}
use mathlib.Core.Bool.{true, ◌&&◌}
use mathlib.Core.List.{List, [], ◌∷◌, ◌++◌, map}
use lib.ListN.{length, get_or, replicate, length-map, length-append, length-replicate}
use lib.Seq.{drop_at}
use lib.Pow.{are_bytes, pow_mono}
use lib.Dec.{T, eqb, ltb, leb, lt→ltb, le→leb}
use Rattle.laws.specs.Lists.{In, flat, every}
use Rattle.field.specs.Bytes.{bytes_of, finite}
use Rattle.part_set.specs.Masks.{has, parts_in, others}
use Rattle.paper.specs.Image.{row_bytes}
use Rattle.paper.specs.Mesh.{Entity, Parts, name_of, name, slot_in, owner_among}
use Rattle.paper.specs.Sound.{value_fitting, body_fitting, fields_fit}
use Rattle.paper.specs.Placement.{residence_in, body_in, row_for}
use Rattle.laws.proofs.Tests.{both, join8}
use Rattle.laws.proofs.Members.{in_every, map_in, part_lt}
use Rattle.paper.proofs.Codec.{Wide}
use Rattle.laws.proofs.Zeros.{zeros_are}
use Rattle.part_set.proofs.MaskParts.{parts_in_in, in_parts_in}
use Rattle.paper.proofs.Remotes.{remotes-others}
use Rattle.demands.proofs.Fit.Record.{Fit}
use Rattle.demands.proofs.Fit.Rows.{coords_at, coords_back, faces_at_lem, residence_lt, residence-holds, holds-residence}
use Rattle.laws.proofs.Places.{index_le}
use Rattle.demands.proofs.Entities.Owners.{owner_in}
use Rattle.demands.proofs.Rows.Bytes.{bytes_of_lem, bytes-append, bytes-flat, bytes-zeros, length_each}

-- ---- the body

body_bytes : (es : List Entity) (d : ℕ) (shape : List ℕ) → T (are_bytes (body_in es d shape))
unfolding body_in
body_bytes es zero shape = bytes-flat (bytes_of 8) shape (λ x i. bytes_of_lem 8 x)
body_bytes es (suc d) shape =
    bytes-append (flat (map (λ k. bytes_of 4 (slot_in es (name_of d k))) shape)) (replicate (24 - 4 * (d + 2)) 0)
    (bytes-flat (λ k. bytes_of 4 (slot_in es (name_of d k))) shape (λ k i. bytes_of_lem 4 (slot_in es (name_of d k)))) (bytes-zeros (24 - 4 * (d + 2)))

slot_le : (es : List Entity) (k : ℕ) → slot_in es k ≤ length es
unfolding slot_in
slot_le es k = omega (arith, index_le k (map name es), length-map es name)

-- ---- the rows

module _ (ps : Parts) (F : Fit ps) (few : (p : ℕ) → length (get_or ps p []) < 2 ^ 32) where
  pub part_small : (p : ℕ) (e : Entity) → In e (get_or ps p []) → p < 64
  part_small p e i = omega (arith, part_lt ps p e i, F.few_parts)

  body_length : (p : ℕ) (e : Entity) → In e (get_or ps p []) → (d : ℕ) → e.dim ≡ d → length (body_in (get_or ps p []) d e.shape) ≡ 24
  unfolding body_in
  body_length p e i zero q = omega (arith, length_each 8 (λ k. k) e.shape, (coords_at ps F few p e i q).count)
  body_length p e i (suc d) q =
      let g : ℕ → ℕ = λ k. slot_in (get_or ps p []) (name_of d k) in
      omega (
        arith,
        length-append (flat (map (λ k. bytes_of 4 (g k)) e.shape)) (replicate (24 - 4 * (d + 2)) 0),
        length_each 4 g e.shape,
        length-replicate {A = ℕ} (24 - 4 * (d + 2)) 0,
        (faces_at_lem ps F few p d e i q).count,
        (F.fits p e i).dim,
      )

  pub row_wide : (p : ℕ) (e : Entity) → In e (get_or ps p []) → Wide (row_for ps p e)
  unfolding row_for
  row_wide p e i =
      let k = F.fits p e i in
      let m = residence_in ps (name e) in
      let slot : ℕ → ℕ = λ q. slot_in (get_or ps q []) (name e) in
      record {
        row = record {
          number = k.number;
          mask = omega (arith, residence_lt ps (name e), pow_mono {i = length ps} {j = 64} F.few_parts);
          value = k.value;
          body = body_length p e i e.dim refl;
          slots = length-map (others m p) slot ∙ remotes-others m p (part_small p e i) (holds-residence ps p e i);
          each = in_every (λ w. ltb w (2 ^ 32)) (map slot (others m p)) (λ w j.
              let v = map_in slot (others m p) w j in
              lt→ltb w (2 ^ 32) (omega (arith, v.2, slot_le (get_or ps v.0 []) (name e), few v.0)));
        };
        body = body_bytes (get_or ps p []) e.dim e.shape;
      }

  pub own_bit : (p : ℕ) (e : Entity) → In e (get_or ps p []) → In p (parts_in (residence_in ps (name e)))
  own_bit p e i = in_parts_in (residence_in ps (name e)) p (part_small p e i) (holds-residence ps p e i)

  owner_lt : (p : ℕ) (e : Entity) → In e (get_or ps p []) → owner_among ps (parts_in (residence_in ps (name e))) < length ps
  owner_lt p e i =
      let m = residence_in ps (name e) in
      let o = owner_among ps (parts_in m) in
      (residence-holds ps (name e) o (parts_in_in m o (owner_in ps (parts_in m) p (own_bit p e i))).1).0

  body_fits : (p : ℕ) (e : Entity) → In e (get_or ps p []) → (d : ℕ) → e.dim ≡ d → T (body_fitting d (body_in (get_or ps p []) d e.shape))
  unfolding body_fitting body_in
  body_fits p e i zero q =
      let c = coords_at ps F few p e i q in subst (λ (xs : List ℕ). T (every finite xs)) (sym (coords_back e.shape c)) c.finites
  body_fits p e i (suc d) q =
      let g : ℕ → ℕ = λ k. slot_in (get_or ps p []) (name_of d k) in
      let front = flat (map (λ k. bytes_of 4 (g k)) e.shape) in
      let pad = replicate {A = ℕ} (24 - 4 * (d + 2)) 0 in
      subst (λ (xs : List ℕ). T (every (eqb 0) xs))
      (sym (drop_at front pad (4 * (d + 2)) (length_each 4 g e.shape ∙ ap (λ (n : ℕ). 4 * n) (faces_at_lem ps F few p d e i q).count))) (zeros_are (24 - 4 * (d + 2)))

  pub row-fields : (p : ℕ) (e : Entity) → In e (get_or ps p []) → T (fields_fit (length ps) p (row_for ps p e))
  unfolding fields_fit row_for
  row-fields p e i =
      let k = F.fits p e i in
      let m = residence_in ps (name e) in
      let o = owner_among ps (parts_in m) in
      let body = body_in (get_or ps p []) e.dim e.shape in
      join8 (leb e.dim 3) (ltb o (length ps)) (leb e.kind 2) true (ltb m (2 ^ length ps)) (has m p) (value_fitting e.kind e.value) (body_fitting e.dim body) (
        le→leb e.dim 3 k.dim,
        lt→ltb o (length ps) (owner_lt p e i),
        le→leb e.kind 2 k.kind,
        tt,
        lt→ltb m (2 ^ length ps) (residence_lt ps (name e)),
        holds-residence ps p e i,
        k.fits,
        body_fits p e i e.dim refl,
      )

  -- ---- and the image is of bytes

  pub row-bytes : (p : ℕ) (e : Entity) → In e (get_or ps p []) → T (are_bytes (row_bytes (row_for ps p e)))
  unfolding row_bytes row_for bytes_of flat
  row-bytes p e i =
      let k = F.fits p e i in
      let m = residence_in ps (name e) in
      let o = owner_among ps (parts_in m) in
      let slots = map (λ q. slot_in (get_or ps q []) (name e)) (others m p) in
      let body = body_in (get_or ps p []) e.dim e.shape in
      let four : List ℕ = e.dim ∷ o ∷ e.kind ∷ 0 ∷ [] in
      let mid : T (are_bytes four) =
      both (ltb e.dim 256) (ltb o 256 && (ltb e.kind 256 && true)) (lt→ltb e.dim 256 (omega (arith, k.dim)))
      (both (ltb o 256) (ltb e.kind 256 && true) (lt→ltb o 256 (omega (arith, owner_lt p e i, F.few_parts)))
      (both (ltb e.kind 256) true (lt→ltb e.kind 256 (omega (arith, k.kind))) tt)) in
      bytes-append (bytes_of 4 e.number) (four ++ (bytes_of 8 m ++ (bytes_of 8 e.value ++ (body ++ flat (map (bytes_of 4) slots))))) (bytes_of_lem 4 e.number)
      (bytes-append four (bytes_of 8 m ++ (bytes_of 8 e.value ++ (body ++ flat (map (bytes_of 4) slots)))) mid
      (bytes-append (bytes_of 8 m) (bytes_of 8 e.value ++ (body ++ flat (map (bytes_of 4) slots))) (bytes_of_lem 8 m)
      (bytes-append (bytes_of 8 e.value) (body ++ flat (map (bytes_of 4) slots)) (bytes_of_lem 8 e.value)
      (bytes-append body (flat (map (bytes_of 4) slots)) (body_bytes (get_or ps p []) e.dim e.shape) (bytes-flat (bytes_of 4) slots (λ q j. bytes_of_lem 4 q))))))
