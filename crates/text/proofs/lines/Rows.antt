-- The rows of an indexed image as the writers of lines meet them: where each stands, and its line. Assumes nothing.
use Prim.Native.Nat.{ℕ, ◌+◌, ◌-◌, ◌≤◌, ◌<◌}
use native.Mathlib.Omega.{arith}
use mathlib.Core.Path.{◌≡◌, refl, sym, ap, ◌∙◌}
use mathlib.Core.List.{List, [], ◌∷◌}
use lib.ListN.{length, get_or}
use Rattle.laws.proofs.Tests.{T_true}
use Rattle.field.specs.Bytes.{u8_at, u32_at, u64_at}
use Rattle.part_set.specs.Masks.{has}
use Rattle.paper.specs.Image.{Row, Set, row_length_of, row_at}
use Rattle.paper.specs.Listing.{row_line, part_lines, set_line_list}
use Rattle.index.specs.Index.{row_from, set_in, Indexed}
use Rattle.paper.specs.declared.Rule.TheVariants.{Fields}
use Rattle.demands.specs.Passed.{Passed}
use Rattle.rows.proofs.Copied.{index_own}
use Rattle.index.proofs.RowFields.{row_number, row_dim, row_owner, row_mask}
use Rattle.rows.proofs.Laws.{part-rows, part_there, row_there}
use Rattle.copies.proofs.Placed.{row_fits}
use Rattle.text.specs.Lines.{numbers_text, RowThere}
use Rattle.decimal.proofs.Runs.{texts_from}
use Rattle.text.proofs.lines.Parts.{row_numbers}

-- ---- the numbers of the row at o, as they are read

pub numbers_read : (b : List ℕ) (o p s : ℕ) {dim number mask owner : ℕ} → dim ≡ u8_at b (o + 4) → number ≡ u32_at b o → mask ≡ u64_at b (o + 8) → owner ≡ u8_at b (o + 5)
    → numbers_text p (s ∷ dim ∷ number ∷ mask ∷ owner ∷ []) ≡ row_numbers p s (row_from b o)
numbers_read b o p s {dim} {number} {mask} {owner} d n m w =
    let d' : dim ≡ (row_from b o).dim = d ∙ sym (row_dim b o) in
    let n' : number ≡ (row_from b o).number = n ∙ sym (row_number b o) in
    let m' : mask ≡ (row_from b o).mask = m ∙ sym (row_mask b o) in
    let w' : owner ≡ (row_from b o).owner = w ∙ sym (row_owner b o) in
    cc

-- ---- the lines of a part, and of a set

unfoldable pub row_text : Set → ℕ → ℕ → List ℕ
row_text S p s = row_line p s (row_at S p s)

pub part_lines_lem : (S : Set) (p : ℕ) → texts_from (row_text S p) (length (get_or S p [])) 0 ≡ part_lines p (get_or S p [])
unfolding part_lines texts_from row_at row_text
part_lines_lem S p = refl

abbrev pub part_text : Set → ℕ → List ℕ
part_text S p = part_lines p (get_or S p [])

pub set_lines : (S : Set) → texts_from (part_text S) (length S) 0 ≡ set_line_list S
unfolding set_line_list texts_from
set_lines S = refl

module _ {b offs starts : List ℕ} {n : ℕ} (index : Indexed b offs starts n) (fits : Passed Fields (set_in b)) where
  own : Indexed b offs starts (length (set_in b))
  own = index_own index

  pub rows_asked : (p : ℕ) → p < length (set_in b) → (p + 1 < length starts) × (get_or starts p 0 ≤ get_or starts (p + 1) 0)
  rows_asked p h =
      (omega (arith, own.few, own.starts_room), omega (arith, own.next p h))

  pub rows_are : (p : ℕ) → p < length (set_in b) → {rows : ℕ} → rows ≡ get_or starts (p + 1) 0 - get_or starts p 0 → rows ≡ length (get_or (set_in b) p [])
  rows_are p h e = e ∙ part-rows own p h

  -- row s of part p
  module _ (p s : ℕ) (h : s < length (get_or (set_in b) p [])) where
    pub offset_asked : (p < length starts) × (get_or starts p 0 + s < length offs)
    offset_asked =
        (omega (arith, part_there own p s h, own.few, own.starts_room), omega (arith, row_there own p s h, own.offs_room))

    module _ {o : ℕ} (e : o ≡ get_or offs (get_or starts p 0 + s) 0) where
      row_is : row_at (set_in b) p s ≡ row_from b o
      row_is = own.row p s h ∙ ap (row_from b) (sym e)

      pub row_stands : RowThere b o p
      row_stands = record {
        room = omega (arith, e, own.there p s h, ap (λ (r : Row). row_length_of r.mask) row_is);
        part = omega (arith, part_there own p s h, own.few);
        own = ap (λ (r : Row). has r.mask p) (sym row_is) ∙ T_true (has (row_at (set_in b) p s).mask p) (row_fits (set_in b) fits p s h).own;
      }

      pub row-text : row_text (set_in b) p s ≡ row_line p s (row_from b o)
      unfolding row_text
      row-text = ap (row_line p s) row_is
