-- The slots that a row names, as the image has them, and a turn of the loop of `cover_row`, on plain values. Assumes nothing.
use Prim.Native.Nat.{ℕ, zero, suc, ◌+◌, ◌*◌, ◌≤◌, ◌<◌}
use native.Mathlib.Numerals.{add-one}
use native.Mathlib.Omega.{arith}
use mathlib.Core.Path.{◌≡◌, refl, sym, ap, ◌∙◌}
use mathlib.Core.Bool.{◌||◌}
use mathlib.Core.List.{List}
use lib.ListN.{length, get_or, take, set}
use lib.Seq.{take_all}
use lib.Dec.{eqb}
use Rattle.laws.specs.Lists.{some?, member}
use Rattle.laws.proofs.Members.{get_or_in}
use Rattle.field.specs.Bytes.{u8_at, u32_at, words}
use Rattle.field.proofs.Reading.{length-words}
use Rattle.paper.specs.Mesh.{slots_of}
use Rattle.index.specs.Index.{row_from}
use Rattle.index.proofs.RowFields.{row_dim, row_word}
use Rattle.residence.specs.Marks.{Marked, slots_named, RowStands}
use Rattle.residence.proofs.covered.Marks.{some_take, mark_none, mark_same, mark_set, mark_then}

slots-words : (d : ℕ) (body : List ℕ) → (d ≡ 0 → ⊥) → slots_of d body ≡ words (d + 1) body
unfolding slots_of
slots-words zero body h = absurd (h refl)
slots-words (suc d) body h = rw (add-one (suc d))

-- the first i slots are marked
abbrev pub RowInv : List ℕ → ℕ → ℕ → List ℕ → List ℕ → ℕ → Type 0
RowInv b at first c₀ c i = Marked first (λ s. member s (take i (slots_named (row_from b at)))) c₀ c

module _ {b : List ℕ} {at first dim : ℕ} {c₀ : List ℕ} (stands : RowStands b at first c₀) (e : dim ≡ u8_at b (at + 4)) where
  is_dim : (row_from b at).dim ≡ dim
  is_dim = row_dim b at ∙ sym e

  -- a vertex names none
  pub row-vertex : dim ≡ 0 → Marked first (λ s. member s (slots_named (row_from b at))) c₀ c₀
  unfolding slots_of member some?
  row-vertex z = mark_same first (λ s. ap (λ (d : ℕ). member s (slots_of d (row_from b at).body)) (sym (is_dim ∙ z))) (mark_none first c₀)

  pub row_slot_read : (i : ℕ) → i ≤ dim → at + 24 + 4 * i + 4 ≤ length b
  row_slot_read i h = omega (arith, stands.there, stands.low, is_dim)

  pub row_start : RowInv b at first c₀ c₀ 0
  unfolding member some?
  row_start = mark_none first c₀

  module _ (solid : dim ≡ 0 → ⊥) where
    named : slots_named (row_from b at) ≡ words (dim + 1) (row_from b at).body
    named = ap (λ (d : ℕ). slots_of d (row_from b at).body) is_dim ∙ slots-words dim (row_from b at).body solid

    named_count : length (slots_named (row_from b at)) ≡ dim + 1
    named_count = ap length named ∙ length-words (dim + 1) (row_from b at).body

    named_at : (i : ℕ) → i ≤ dim → get_or (slots_named (row_from b at)) i 0 ≡ u32_at b (at + 24 + 4 * i)
    named_at i h =
        ap (λ (l : List ℕ). get_or l i 0) named ∙ row_word b at (dim + 1) i (omega arith) (omega (arith, is_dim, stands.low))

    -- the entry of the slot that is read is there
    pub row_slot_there : (i v : ℕ) → i ≤ dim → v ≡ u32_at b (at + 24 + 4 * i) → first + v < length c₀
    row_slot_there i v h f =
        let fs = slots_named (row_from b at) in
        let is : get_or fs i 0 ≡ v = named_at i h ∙ sym f in
        let l = stands.inside (get_or fs i 0) (get_or_in fs i 0 (omega (arith, named_count))) in
        omega (arith, l, is)

    pub row_turn : (i v : ℕ) (c : List ℕ) → i ≤ dim → v ≡ u32_at b (at + 24 + 4 * i) → RowInv b at first c₀ c i → RowInv b at first c₀ (set c (first + v) 1) (i + 1)
    unfolding member
    row_turn i v c h f inv =
        let fs = slots_named (row_from b at) in
        let is : get_or fs i 0 ≡ v = named_at i h ∙ sym f in
        let l : i < length fs = omega (arith, named_count) in
        let there : first + v < length c = omega (arith, row_slot_there i v h f, inv.same) in
        mark_same first
        (λ s. sym (ap (λ (k : ℕ). some? (eqb s) (take k fs)) (add-one i) ∙ some_take (eqb s) fs i 0 l ∙ ap (λ (x : ℕ). some? (eqb s) (take i fs) || eqb s x) is))
        (mark_then first inv (mark_set first c v there))

    pub row_end : (i : ℕ) (c : List ℕ) → dim < i → RowInv b at first c₀ c i → Marked first (λ s. member s (slots_named (row_from b at))) c₀ c
    row_end i c h inv =
        let fs = slots_named (row_from b at) in
        mark_same first (λ s. ap (member s) (take_all i fs (omega (arith, named_count)))) inv
