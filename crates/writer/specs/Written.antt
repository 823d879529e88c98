-- The pieces of a row, what each is written from, and where it stands then. Assumes nothing.
use Rattle.std.specs.Prelude.{ℕ, ◌+◌, ◌*◌, ◌≤◌, ◌<◌, ◌≡◌, List, [], ◌∷◌, ◌++◌, length, get_or, take, drop}
use Rattle.std.proofs.lemmas.List.Edits.{sets}
use Rattle.field.specs.Bytes.{u8_at, u32_at, u64_at, bytes_of}
use Rattle.part_set.specs.Masks.{lowest_of}
use Rattle.writer.specs.Entries.{entry_of, Entered, body_from}
use Rattle.writer.specs.Rows.{face_at, faces_at}

-- the first 24 bytes of a row
unfoldable pub front_bytes : ℕ → ℕ → ℕ → ℕ → ℕ → ℕ → List ℕ
front_bytes number dim owner kind mask value = bytes_of 4 number ++ (dim ∷ owner ∷ kind ∷ 0 ∷ []) ++ bytes_of 8 mask ++ bytes_of 8 value

-- ---- the faces of the source row at `at`, which has dimension d

-- each stands in the image as a row
pub record FacesNamed (image : List ℕ) (at : ℕ) (starts ent : List ℕ) (d : ℕ) : Type 0 where
  pub low : d ≤ 3
  pub source : at + 48 ≤ length image
  pub old : 0 < u64_at image (at + 8)
  pub begun : lowest_of (u64_at image (at + 8)) < length starts
  pub named : 0 < d → (k : ℕ) → k < d + 1 → get_or starts (lowest_of (u64_at image (at + 8))) 0 + u32_at image (at + 24 + 4 * k) < length ent

-- a table begins with them
pub record FacesFound (image : List ℕ) (at : ℕ) (starts ent : List ℕ) (d : ℕ) (before after : List ℕ) : Type 0 where
  pub same : length after ≡ length before
  pub found : 0 < d → after ≡ sets before 0 (faces_at image starts ent at d)

-- ---- what the row in part q has at 24, by the source row at `at`

unfoldable pub body_at : List ℕ → ℕ → List ℕ → List ℕ → List ℕ → List ℕ → List ℕ → ℕ → List ℕ
body_at image at starts ent masks base slots q =
    let d = u8_at image (at + 4) in
    body_from (take 24 (drop (at + 24) image)) (entry_of masks base slots q) (faces_at image starts ent at d) d

pub record BodyReady (image : List ℕ) (at : ℕ) (starts ent masks base slots : List ℕ) (q : ℕ) : Type 0 where
  pub part : q < 64
  pub named : FacesNamed image at starts ent (u8_at image (at + 4))
  pub entered : 0 < u8_at image (at + 4) → (k : ℕ) → k < u8_at image (at + 4) + 1
      → Entered masks base slots q (face_at image starts ent at (u32_at image (at + 24 + 4 * k)))

-- ---- where it stands

-- `bytes` stand from `at` to `next`
pub record Put (bytes entry exit : List ℕ) (at next : ℕ) : Type 0 where
  pub written : exit ≡ sets entry at bytes
  pub next? : next ≡ at + length bytes
