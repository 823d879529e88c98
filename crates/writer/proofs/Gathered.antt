-- The faces of a row, gathered one by one into a table.
-- Assumes nothing.
use Prim.Native.Nat.{ℕ, ◌+◌, ◌*◌, ◌≤◌, ◌<◌}
use native.Mathlib.Nat.{zero-add}
use native.Mathlib.Omega.{arith}
use mathlib.Core.Path.{◌≡◌, sym, ap, ◌∙◌, subst}
use mathlib.Core.List.{List}
use lib.ListN.{length, get_or, set, take, drop, length-map}
use Rattle.laws.proofs.Agree.{get_or_map}
use Rattle.field.specs.Bytes.{u32_at, u64_at, words}
use Rattle.field.proofs.Reading.{length-words, u32_drop}
use Rattle.field.proofs.Stores.{Storing, store_more, sets_inside, get_or_run}
use Rattle.part_set.specs.Masks.{lowest_of}
use Rattle.index.proofs.RowFields.{get_or_words}
use Rattle.writer.specs.Rows.{face_at, faces_at}
use Rattle.writer.specs.Written.{FacesFound}

module _ (image : List ℕ) (at : ℕ) (starts ent : List ℕ) (d : ℕ) where
  pub faces-length : length (faces_at image starts ent at d) ≡ d + 1
  unfolding faces_at
  faces-length = length-map (words (d + 1) (drop (at + 24) image)) (face_at image starts ent at) ∙ length-words (d + 1) (drop (at + 24) image)

  -- the face at k
  pub face_at_lem : (k : ℕ) → k < d + 1 → get_or (faces_at image starts ent at d) k 0 ≡ face_at image starts ent at (u32_at image (at + 24 + 4 * k))
  unfolding faces_at
  face_at_lem k h =
      let ws = words (d + 1) (drop (at + 24) image) in
      get_or_map (face_at image starts ent at) ws k 0 0 (omega (arith, length-words (d + 1) (drop (at + 24) image)))
      ∙ ap (face_at image starts ent at) (get_or_words (d + 1) (drop (at + 24) image) k h ∙ u32_drop image (at + 24) (4 * k))

  -- its row, as code finds it: by the lowest part of the old residence set `long`
  module _ (k long low slot : ℕ) (e : long ≡ u64_at image (at + 8)) (f : low ≡ lowest_of long) (g : slot ≡ u32_at image (at + 24 + 4 * k)) where
    face_row : get_or starts low 0 + slot ≡ get_or starts (lowest_of (u64_at image (at + 8))) 0 + u32_at image (at + 24 + 4 * k)
    face_row = cc

    pub face_found : get_or ent (get_or starts low 0 + slot) 0 ≡ face_at image starts ent at (u32_at image (at + 24 + 4 * k))
    face_found = ap (λ (row : ℕ). get_or ent row 0) face_row

  pub face_stored : (start : List ℕ) (k v : ℕ) (out : List ℕ) → Storing start 0 (faces_at image starts ent at d) k out → k < d + 1
      → v ≡ face_at image starts ent at (u32_at image (at + 24 + 4 * k)) → Storing start 0 (faces_at image starts ent at d) (k + 1) (set out k v)
  face_stored start k v out w h e =
      subst (λ (z : ℕ). Storing start 0 (faces_at image starts ent at d) (k + 1) (set out z v)) (zero-add k)
      (store_more w (omega (arith, faces-length)) (face_at_lem k h ∙ sym e))

  -- what the table has then
  module _ (before after : List ℕ) (room : d + 1 ≤ length before) (w : FacesFound image at starts ent d before after) (h : 0 < d) where
    pub found_run : take (d + 1) (drop 0 after) ≡ faces_at image starts ent at d
    found_run =
        ap (λ (n : ℕ). take n (drop 0 after)) (sym faces-length)
        ∙ ap (λ (l : List ℕ). take (length (faces_at image starts ent at d)) (drop 0 l)) (w.found h)
        ∙ sets_inside before 0 (faces_at image starts ent at d) (omega (arith, faces-length))

    pub found_at : (k : ℕ) → k < d + 1 → get_or after (0 + k) 0 ≡ face_at image starts ent at (u32_at image (at + 24 + 4 * k))
    found_at k l =
        sym (get_or_run after 0 (d + 1) (omega (arith, w.same)) k l) ∙ ap (λ (xs : List ℕ). get_or xs k 0) found_run ∙ face_at_lem k l
