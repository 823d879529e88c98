-- The remote copies of a row, one a turn: those of the parts that are left, with the words from `from` on, give all. Assumes nothing.
use Prim.Native.Nat.{ℕ, suc, ◌+◌, ◌*◌, ◌≤◌, ◌<◌}
use native.Mathlib.Nat.{add-zero}
use native.Mathlib.Omega.{arith}
use mathlib.Core.Path.{◌≡◌, refl, sym, ap, ap₂, ◌∙◌}
use mathlib.Core.Bool.{true}
use mathlib.Core.List.{List, [], ◌∷◌, ◌++◌, map}
use lib.ListN.{length, drop}
use lib.Seq.{drop-drop}
use Rattle.laws.specs.Lists.{zip}
use Rattle.laws.proofs.Tests.{true_T}
use Rattle.field.specs.Bytes.{u32_at, u64_at, words}
use Rattle.field.proofs.Reading.{u32_drop}
use Rattle.part_set.specs.Masks.{has, parts_in, others, count, lowest_of, Rest}
use Rattle.part_set.proofs.MaskParts.{others-count}
use Rattle.part_set.proofs.Walk.{parts_none, count_parts}
use Rattle.paper.specs.Image.{remotes}
use Rattle.paper.specs.Listing.{copy_text}
use Rattle.index.specs.Index.{row_from}
use Rattle.index.proofs.RowFields.{row_mask, row-slots, row-length}
use Rattle.text.specs.Lines.{spaced, copies_text, RowThere}
use Rattle.decimal.specs.Writing.{Room, Wrote}
use Rattle.decimal.proofs.Runs.{Splits, Left, left_all, left_room, left_next, left_done, room_as, wrote_as}
use Rattle.text.proofs.lines.Parts.{spaced_none, spaced_next}

rest-count : {w r : ℕ} → Rest w r → count w ≡ suc (count r)
rest-count {w} {r} rest = count_parts w ∙ ap length rest.parts ∙ ap suc (sym (count_parts r))

module _ (b : List ℕ) where
  -- the copies in the parts of w, their slots from `from` on
  unfoldable pub copies_from : ℕ → ℕ → List ℕ
  copies_from w from = spaced (map copy_text (zip (parts_in w) (words (count w) (drop from b))))

  pub record CopiesLeft (start : List ℕ) (at w₀ from₀ : ℕ) (out : List ℕ) (to w from : ℕ) : Type 0 where
    pub left : Left start at (copies_from w₀ from₀) out to (copies_from w from)
    pub words : from + 4 * count w ≤ length b

  words_next : (k from : ℕ) → words (suc k) (drop from b) ≡ u32_at b from ∷ words k (drop (from + 4) b)
  unfolding words
  words_next k from = ap₂ {C = List ℕ} (λ (x : ℕ) (l : List ℕ). x ∷ words k l) (u32_drop b from 0 ∙ ap (u32_at b) (add-zero from)) (drop-drop 4 from b)

  copies_next : {w r q t : ℕ} (from : ℕ) → Rest w r → q ≡ lowest_of w → t ≡ u32_at b from → Splits (copies_from w from) (32 ∷ copy_text (q, t)) (copies_from r (from + 4))
  unfolding copies_from zip
  copies_next {w} {r} {q} {t} from rest least word = record {
    is =
        ap₂ (λ (ps : List ℕ) (ts : List ℕ). spaced (map copy_text (zip ps ts))) rest.parts (ap (λ (k : ℕ). words k (drop from b)) (rest-count rest) ∙ words_next (count r) from)
        ∙ (spaced_next (copy_text (lowest_of w, u32_at b from)) (map copy_text (zip (parts_in r) (words (count r) (drop (from + 4) b))))).is
        ∙ ap₂ (λ (x y : ℕ). (32 ∷ copy_text (x, y)) ++ spaced (map copy_text (zip (parts_in r) (words (count r) (drop (from + 4) b))))) (sym least) (sym word);
  }

  copies_none : (from : ℕ) → copies_from 0 from ≡ []
  unfolding copies_from zip
  copies_none from = ap (λ (ps : List ℕ). spaced (map copy_text (zip ps (words (count 0) (drop from b))))) parts_none ∙ spaced_none

  -- ---- the row at o

  module _ {o p : ℕ} (there : RowThere b o p) where
    pub head_room : o + 48 ≤ length b
    head_room = omega (arith, there.room, row-length (row_from b o).mask)

    pub without_asked : {mask : ℕ} → mask ≡ u64_at b (o + 8) → (p < 64) × (has mask p ≡ true)
    without_asked e = (there.part, ap (λ (m : ℕ). has m p) (e ∙ sym (row_mask b o)) ∙ there.own)

    module _ {mask : ℕ} (w : ℕ) (same : mask ≡ u64_at b (o + 8)) (parts : parts_in w ≡ others mask p) where
      remotes-left : count w ≡ remotes (row_from b o).mask
      unfolding remotes
      remotes-left =
          count_parts w ∙ ap length (parts ∙ ap (λ (m : ℕ). others m p) (same ∙ sym (row_mask b o)))
          ∙ others-count (row_from b o).mask p there.part (true_T (has (row_from b o).mask p) there.own)

      all-copies : copies_from w (o + 48) ≡ copies_text (row_from b o) p
      unfolding copies_from copies_text
      all-copies =
          ap₂ (λ (ps : List ℕ) (ts : List ℕ). spaced (map copy_text (zip ps ts))) (parts ∙ ap (λ (m : ℕ). others m p) (same ∙ sym (row_mask b o)))
          (ap (λ (k : ℕ). words k (drop (o + 48) b)) remotes-left ∙ sym (row-slots b o))

      pub copies_start : {out : List ℕ} {at : ℕ} → CopiesLeft out at w (o + 48) out at w (o + 48)
      copies_start = record { left = left_all refl; words = omega (arith, there.room, row-length (row_from b o).mask, remotes-left) }

      pub copies-room : {at : ℕ} → Room at (copies_text (row_from b o) p) → Room at (copies_from w (o + 48))
      copies-room room = room_as (sym all-copies) room

      pub copies-done : {start : List ℕ} {at : ℕ} {out : List ℕ} {to v from : ℕ} → CopiesLeft start at w (o + 48) out to v from → v ≡ 0 → Wrote start at (copies_text (row_from b o) p) out to
      copies-done {v = v} {from = from} inv e = wrote_as all-copies (left_done inv.left (ap (λ (x : ℕ). copies_from x from) e ∙ copies_none from))

  -- ---- a turn, at the least part q

  module _ {start : List ℕ} {at w₀ from₀ : ℕ} {out : List ℕ} {to w from r : ℕ} (inv : CopiesLeft start at w₀ from₀ out to w from) (rest : Rest w r) where
    pub word_there : from + 4 ≤ length b
    word_there = omega (arith, inv.words, rest-count rest)

    pub copy_room : {q t : ℕ} → q ≡ lowest_of w → t ≡ u32_at b from → Room at (copies_from w₀ from₀) → Room to (32 ∷ copy_text (q, t))
    copy_room least word room = left_room inv.left (copies_next from rest least word) room

    pub copies-more : {q t : ℕ} {out' : List ℕ} {to' : ℕ} → q ≡ lowest_of w → t ≡ u32_at b from → Wrote out to (32 ∷ copy_text (q, t)) out' to' → CopiesLeft start at w₀ from₀ out' to' r (from + 4)
    copies-more least word wrote = record {
      left = left_next inv.left (copies_next from rest least word) wrote;
      words = omega (arith, inv.words, rest-count rest);
    }
