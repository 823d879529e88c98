-- A row that has passed rule 7 is in its own residence set. Assumes nothing.
use Prim.Native.Nat.{ℕ, ◌+◌, ◌^◌, ◌≤◌, ◌<◌}
use native.Mathlib.Decide.{dec_le}
use native.Mathlib.Nat.{not-suc-le-zero, lt_of_not-le}
use native.Mathlib.Omega.{arith}
use mathlib.Core.Path.{◌≡◌, sym, ap, ◌∙◌}
use mathlib.Core.List.{List, []}
use lib.ListN.{length, get_or}
use lib.Dec.{T, leb, ltb, eqb}
use Rattle.laws.specs.Lists.{In}
use Rattle.laws.proofs.Tests.{split8}
use Rattle.laws.proofs.Members.{get_or_in, part_lt}
use Rattle.field.specs.Bytes.{u64_at}
use Rattle.part_set.specs.Masks.{has, parts_in, lowest_of}
use Rattle.part_set.proofs.MaskParts.{has_lt, in_parts_in}
use Rattle.paper.specs.Image.{Row, Set, no_row, row_at}
use Rattle.paper.specs.Sound.{value_fitting, body_fitting, fields_fit}
use Rattle.index.specs.Index.{set_in, Indexed}
use Rattle.index.proofs.RowFields.{row_mask}
use Rattle.paper.specs.declared.Rule.TheVariants.{Fields}
use Rattle.paper.specs.Sound.{judged}
use Rattle.demands.specs.Passed.{Passed}
use Rattle.entities.specs.LowestCopies.{is_low}

own_bit : (n p : ℕ) (r : Row) → T (fields_fit n p r) → T (has r.mask p)
unfolding fields_fit
own_bit n p r t =
    (split8 (leb r.dim 3) (ltb r.owner n) (leb r.kind 2) (eqb r.pad 0) (ltb r.mask (2 ^ n)) (has r.mask p)
    (value_fitting r.kind r.value) (body_fitting r.dim r.body) t).5

pub has_some : (m p : ℕ) → T (has m p) → 0 < m
has_some m p t = elim (dec_le m 0) [ yes h ↦ absurd (not-suc-le-zero (has_lt 0 m p (omega arith) t)) | no h ↦ lt_of_not-le h ]

module _ (S : Set) (fields : Passed Fields S) (p s : ℕ) (h : s < length (get_or S p [])) where
  pub own : T (has (row_at S p s).mask p)
  unfolding judged
  own = own_bit (length S) p (row_at S p s) (fields p s h)

  pub own_in : length S ≤ 64 → In p (parts_in (row_at S p s).mask)
  own_in few = let l = part_lt S p (get_or (get_or S p []) s no_row) (get_or_in (get_or S p []) s no_row h) in in_parts_in (row_at S p s).mask p (omega arith) own

-- what is read of row s of part p
module _ {b offs starts : List ℕ} {n : ℕ} (index : Indexed b offs starts n) (fields : Passed Fields (set_in b)) (p s : ℕ) (h : s < length (get_or (set_in b) p [])) where
  pub mask_at : u64_at b (get_or offs (get_or starts p 0 + s) 0 + 8) ≡ (row_at (set_in b) p s).mask
  mask_at = sym (row_mask b (get_or offs (get_or starts p 0 + s) 0)) ∙ ap (λ (r : Row). r.mask) (sym (index.row p s h))

  pub mask_some : 0 < u64_at b (get_or offs (get_or starts p 0 + s) 0 + 8)
  mask_some = omega (arith, mask_at, has_some (row_at (set_in b) p s).mask p (own (set_in b) fields p s h))

  -- the lowest part of the set that is read, compared with the row's own
  pub low_read : (v : ℕ) → v ≡ lowest_of (u64_at b (get_or offs (get_or starts p 0 + s) 0 + 8)) → eqb v p ≡ is_low (set_in b) p s
  unfolding is_low
  low_read v e = ap (λ (x : ℕ). eqb x p) (e ∙ ap lowest_of mask_at)
