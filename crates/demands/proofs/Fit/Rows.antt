-- Parts that fit, written as rows and read back.
-- Assumes nothing.
use Prim.Native.Nat.{ℕ, zero, suc, ◌^◌, ◌<◌}
use mathlib.Core.Path.{◌≡◌, refl, sym, ap, ap₂, ◌∙◌, subst}
use mathlib.Core.Bool.{◌&&◌}
use mathlib.Core.Logic.{◌⊎◌, inl, inr}
use mathlib.Core.List.{List, [], map, append-nil}
use lib.ListN.{length, get_or, length-map}
use lib.Seq.{ext_get_or}
use lib.Dec.{T, eqb, ltb, ltb→lt, lt→ltb, eqb→eq, lit<}
use Rattle.laws.specs.Lists.{In, flat, every}
use Rattle.field.specs.Bytes.{longs, bytes_of, finite}
use Rattle.part_set.specs.Masks.{has}
use Rattle.paper.specs.Image.{Row, no_row}
use Rattle.paper.specs.Mesh.{Entity, Parts, name_of, name, no_ent, shape_of, ent_of, parts_of, holds}
use Rattle.paper.specs.Placement.{residence_in, body_in, row_for, rows_for, shape_fits}
use Rattle.laws.proofs.Tests.{split2, both, decide}
use Rattle.laws.proofs.Agree.{map_of_map, map_self, get_or_map}
use Rattle.laws.proofs.Members.{get_or_in, every_in, in_every, part_lt}
use Rattle.demands.proofs.Entities.Names.{in_holds}
use Rattle.part_set.proofs.MaskBits.{has_mask_of}
use Rattle.part_set.proofs.MaskParts.{mask_of_lt, has_lt}
use Rattle.demands.proofs.Rows.Bytes.{longs-back}
use Rattle.demands.proofs.Rows.ReadBack.{standing, shape_back}
use Rattle.demands.proofs.Entities.Fits.{FacesOk, faces_of_lem}
use Rattle.demands.proofs.Rows.Made.{rows-count, rows-part}
use Rattle.demands.proofs.Sound.Rows.{ent, parts_at, parts_count, row}
use Rattle.demands.proofs.Fit.Record.{Fit}
use mathlib.Core.Bool.{not}
use lib.Dec.{nltb→le}
use lib.ListN.{get_or-eq_default}

-- the rows of part p
abbrev pub rows_in : Parts → ℕ → List Row
rows_in ps p = map (row_for ps p) (get_or ps p [])

pub in_rows : (ps : Parts) (p : ℕ) → length (get_or (rows_for ps) p []) ≡ length (get_or ps p [])
in_rows ps p = ap length (rows-part ps p) ∙ length-map (get_or ps p []) (row_for ps p)

pub row_at_lem : (ps : Parts) (p s : ℕ) → s < length (get_or ps p []) → row (rows_for ps) p s ≡ row_for ps p (get_or (get_or ps p []) s no_ent)
row_at_lem ps p s h = ap (λ (rows : List Row). get_or rows s no_row) (rows-part ps p) ∙ get_or_map (row_for ps p) (get_or ps p []) s no_ent no_row h

-- ---- residence sets

pub has-residence : (ps : Parts) (k q : ℕ) → q < length ps → has (residence_in ps k) q ≡ holds (get_or ps q []) k
unfolding residence_in
has-residence ps k q h = has_mask_of (length ps) q (λ q. holds (get_or ps q []) k) h

pub residence_lt : (ps : Parts) (k : ℕ) → residence_in ps k < 2 ^ length ps
unfolding residence_in
residence_lt ps k = mask_of_lt (length ps) (λ q. holds (get_or ps q []) k)

pub residence-holds : (ps : Parts) (k q : ℕ) → T (has (residence_in ps k) q) → (q < length ps) × T (holds (get_or ps q []) k)
residence-holds ps k q t = let h = has_lt (length ps) (residence_in ps k) q (residence_lt ps k) t in (h, subst T (has-residence ps k q h) t)

pub holds-residence : (ps : Parts) (q : ℕ) (e : Entity) → In e (get_or ps q []) → T (has (residence_in ps (name e)) q)
holds-residence ps q e i = subst T (sym (has-residence ps (name e) q (part_lt ps q e i))) (in_holds (get_or ps q []) e i)

-- ---- shapes

pub record Coords (shape : List ℕ) : Type 0 where
  pub count : length shape ≡ 3
  pub small : T (every (λ x. ltb x (2 ^ 64)) shape)
  pub finites : T (every finite shape)

coords_of : (es : List Entity) (shape : List ℕ) → T (shape_fits es 0 shape) → Coords shape
unfolding shape_fits
coords_of es shape t =
    let s = split2 (eqb (length shape) 3) (every (λ x. ltb x (2 ^ 64) && finite x) shape) t in
    record {
      count = eqb→eq (length shape) 3 s.0;
      small = in_every (λ x. ltb x (2 ^ 64)) shape (λ x i. (split2 (ltb x (2 ^ 64)) (finite x) (every_in (λ x. ltb x (2 ^ 64) && finite x) shape s.1 x i)).0);
      finites = in_every finite shape (λ x i. (split2 (ltb x (2 ^ 64)) (finite x) (every_in (λ x. ltb x (2 ^ 64) && finite x) shape s.1 x i)).1);
    }

pub coords_back : (shape : List ℕ) → Coords shape → longs 3 (flat (map (bytes_of 8) shape)) ≡ shape
coords_back shape c =
    ap₂ (λ (k : ℕ) (l : List ℕ). longs k l) (sym c.count) (sym (append-nil (flat (map (bytes_of 8) shape)))) ∙ longs-back shape [] c.small

pub all_standing : (es : List Entity) (d : ℕ) (shape : List ℕ) → FacesOk es d shape → T (every (standing es d) shape)
all_standing es d shape f =
    in_every (standing es d) shape (λ k i. both (ltb k (2 ^ 32)) (holds es (name_of d k)) (lt→ltb k (2 ^ 32) (f.held k i).0) (f.held k i).1)

module _ (ps : Parts) (F : Fit ps) (few : (p : ℕ) → length (get_or ps p []) < 2 ^ 32) where
  pub numbers : (p i : ℕ) → (get_or (get_or ps p []) i no_ent).number < 2 ^ 32
  numbers p i = go (decide (ltb i (length (get_or ps p []))))
    where
      go : T (ltb i (length (get_or ps p []))) ⊎ T (not (ltb i (length (get_or ps p [])))) → (get_or (get_or ps p []) i no_ent).number < 2 ^ 32
      go (inl t) = (F.fits p (get_or (get_or ps p []) i no_ent) (get_or_in (get_or ps p []) i no_ent (ltb→lt i (length (get_or ps p [])) t))).number
      go (inr t) =
          subst (λ (e : Entity). e.number < 2 ^ 32) (sym (get_or-eq_default (get_or ps p []) no_ent {n = i} (nltb→le i (length (get_or ps p [])) t))) (lit< tt)

  pub faces_at_lem : (p d : ℕ) (e : Entity) → In e (get_or ps p []) → e.dim ≡ suc d → FacesOk (get_or ps p []) d e.shape
  faces_at_lem p d e i q = faces_of_lem (get_or ps p []) d e.shape (subst (λ (z : ℕ). T (shape_fits (get_or ps p []) z e.shape)) q (F.fits p e i).shape)

  pub coords_at : (p : ℕ) (e : Entity) → In e (get_or ps p []) → e.dim ≡ 0 → Coords e.shape
  coords_at p e i q = coords_of (get_or ps p []) e.shape (subst (λ (z : ℕ). T (shape_fits (get_or ps p []) z e.shape)) q (F.fits p e i).shape)

  number_of_row : (p : ℕ) (e : Entity) → (row_for ps p e).number ≡ e.number
  unfolding row_for
  number_of_row p e = refl

  shape_at : (p : ℕ) (e : Entity) → In e (get_or ps p []) → (d : ℕ) → e.dim ≡ d → shape_of (rows_in ps p) d (body_in (get_or ps p []) d e.shape) ≡ e.shape
  unfolding shape_of body_in
  shape_at p e i zero q = coords_back e.shape (coords_at p e i q)
  shape_at p e i (suc d) q =
      let f = faces_at_lem p d e i q in
      unfold shape_of body_in in shape_back (get_or ps p []) (numbers p) (few p) (row_for ps p) (number_of_row p) d e.shape f.count (all_standing (get_or ps p []) d e.shape f)

  -- the entity of its row is the entity
  pub ent-back : (p : ℕ) (e : Entity) → In e (get_or ps p []) → ent_of (rows_in ps p) (row_for ps p e) ≡ e
  unfolding ent_of row_for
  ent-back p e i = λ j. record { dim = e.dim; number = e.number; kind = e.kind; value = e.value; shape = shape_at p e i e.dim refl j }

  pub part-back : (p : ℕ) → map (ent_of (rows_in ps p)) (rows_in ps p) ≡ get_or ps p []
  part-back p = map_of_map (ent_of (rows_in ps p)) (row_for ps p) (get_or ps p []) ∙ map_self (λ e. ent_of (rows_in ps p) (row_for ps p e)) (get_or ps p []) (ent-back p)

  pub parts_back : parts_of (rows_for ps) ≡ ps
  parts_back =
      ext_get_or [] (parts_of (rows_for ps)) ps (parts_count (rows_for ps) ∙ rows-count ps)
      (λ p h. parts_at (rows_for ps) p ∙ ap (λ (rows : List Row). map (ent_of rows) rows) (rows-part ps p) ∙ part-back p)

  pub ent_at : (p s : ℕ) → s < length (get_or ps p []) → ent (rows_for ps) p s ≡ get_or (get_or ps p []) s no_ent
  ent_at p s h =
      ap₂ (λ (rows : List Row) (r : Row). ent_of rows r) (rows-part ps p) (row_at_lem ps p s h)
      ∙ ent-back p (get_or (get_or ps p []) s no_ent) (get_or_in (get_or ps p []) s no_ent h)
