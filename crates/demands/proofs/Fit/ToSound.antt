-- Fit to Sound: the rows that fitting parts make are sound, and their image is of bytes.
-- Assumes nothing.
use Prim.Native.Nat.{ℕ, ◌^◌, ◌<◌, ◌≤◌}
use native.Mathlib.Omega.{arith}
use mathlib.Core.Path.{refl, sym, ◌∙◌, subst, subst₂}
use mathlib.Core.Bool.{Bool}
use mathlib.Core.List.{List, [], map}
use lib.ListN.{length, get_or}
use lib.Pow.{are_bytes}
use lib.Dec.{T, eqb, ltb, lt→ltb}
use Rattle.laws.specs.Lists.{flat}
use Rattle.field.specs.Bytes.{bytes_of}
use Rattle.part_set.specs.Masks.{parts_in}
use Rattle.paper.specs.Image.{Row, row_at, row_bytes, bytes_of_part, image_of}
use Rattle.paper.specs.Mesh.{Parts, no_ent, owner_among}
use Rattle.paper.specs.Sound.{fields_fit, ordered, boundary_stands, owned_well}
use Rattle.paper.specs.Placement.{row_for, rows_for}
use Rattle.laws.proofs.Tests.{both, eq-eqb}
use Rattle.laws.proofs.Members.{get_or_in, in_get_or, map_in}
use Rattle.paper.proofs.Codec.{Wide}
use Rattle.demands.proofs.Fit.Record.{Fit}
use Rattle.demands.proofs.Rows.Made.{rows-count, rows-part}
use Rattle.demands.proofs.Fit.Rows.{rows_in, in_rows, row_at_lem, parts_back}
use Rattle.demands.proofs.Rows.Bytes.{bytes_of_lem, bytes-append, bytes-flat}
use Rattle.demands.proofs.Fit.Fields.{row_wide, row-fields, row-bytes}
use Rattle.demands.proofs.Fit.Order.{row-ordered, row_boundary}
use Rattle.demands.proofs.Fit.Copies.{row-copies}
use Rattle.demands.proofs.Fit.Residence.{row_resides}
use Rattle.demands.proofs.Sound.Facts.{Copied, Sound}

module _ (ps : Parts) (F : Fit ps) (few : (p : ℕ) → length (get_or ps p []) < 2 ^ 32) where
  slot : (p s : ℕ) → s < length (get_or (rows_for ps) p []) → s < length (get_or ps p [])
  slot p s h = subst (λ (n : ℕ). s < n) (in_rows ps p) h

  row-owned : (p s : ℕ) → s < length (get_or ps p []) → T (owned_well (rows_for ps) p s)
  unfolding owned_well row_at row_for
  row-owned p s h =
      let o : Row → Parts → Bool = λ r qs. eqb r.owner (owner_among qs (parts_in r.mask)) in
      let r = row_for ps p (get_or (get_or ps p []) s no_ent) in
      subst₂ (λ (x : Row) (qs : Parts). T (o x qs)) (sym (row_at_lem ps p s h)) (sym (parts_back ps F few)) (eq-eqb r.owner (owner_among ps (parts_in r.mask)) refl)

  copied : Copied (rows_for ps)
  unfolding row_at
  copied =
      record {
        some_part = subst (λ (n : ℕ). 0 < n) (sym (rows-count ps)) F.some_part;
        few_parts = subst (λ (n : ℕ). n ≤ 64) (sym (rows-count ps)) F.few_parts;
        wide = λ p s h. let l = slot p s h in
            subst Wide (sym (row_at_lem ps p s l)) (row_wide ps F few p (get_or (get_or ps p []) s no_ent) (get_or_in (get_or ps p []) s no_ent l));
        fields = λ p s h. let l = slot p s h in
            subst₂ (λ (n : ℕ) (r : Row). T (fields_fit n p r)) (sym (rows-count ps)) (sym (row_at_lem ps p s l)) (row-fields ps F few p (get_or (get_or ps p []) s no_ent) (get_or_in (get_or ps p []) s no_ent l));
        order = λ p s h. subst (λ (rows : List Row). T (ordered rows s)) (sym (rows-part ps p)) (row-ordered ps F few p s (slot p s h));
        boundary = λ p s h. let l = slot p s h in
            subst₂ (λ (rows : List Row) (r : Row). T (boundary_stands rows r)) (sym (rows-part ps p)) (sym (row_at_lem ps p s l)) (row_boundary ps F few p (get_or (get_or ps p []) s no_ent) (get_or_in (get_or ps p []) s no_ent l));
        copies = λ p s h. row-copies ps F few p s (slot p s h);
      }

  pub fit_sound : Sound (rows_for ps)
  fit_sound =
      record {
        copied = copied;
        residence = λ p s h. row_resides ps F few p s (slot p s h);
        owner = λ p s h. row-owned p s (slot p s h);
      }

  part_bytes : (p : ℕ) → T (are_bytes (bytes_of_part (rows_in ps p)))
  unfolding bytes_of_part
  part_bytes p =
      bytes-append (bytes_of 4 (length (rows_in ps p))) (flat (map row_bytes (rows_in ps p))) (bytes_of_lem 4 (length (rows_in ps p)))
      (bytes-flat row_bytes (rows_in ps p) (λ r i.
      let w = map_in (row_for ps p) (get_or ps p []) r i in subst (λ (x : Row). T (are_bytes (row_bytes x))) (sym w.2) (row-bytes ps F few p w.0 w.1)))

  pub fit_bytes : T (are_bytes (image_of (rows_for ps)))
  unfolding image_of
  fit_bytes =
      let S = rows_for ps in
      let rest = flat (map bytes_of_part S) in
      both (ltb (length S) 256) (are_bytes rest) (lt→ltb (length S) 256 (omega (arith, rows-count ps, F.few_parts)))
      (bytes-flat bytes_of_part S (λ rows i.
      let w = in_get_or S rows [] i in subst (λ (x : List Row). T (are_bytes (bytes_of_part x))) (sym (w.2 ∙ rows-part ps w.0)) (part_bytes w.0)))
