-- Rows as they are written, by the source image and the tables of its entities: entity i stands in the image as row ord i, row g of the image
-- begins at offs g and is entity ent g, the rows of part p begin with row starts p. Its new residence set is masks i, its slots stand from
-- base i on, and the parts have so many objects as counts says. Assumes nothing.
use Rattle.std.specs.Prelude.{ℕ, ◌+◌, ◌*◌, ◌≤◌, ◌<◌, ◌≡◌, true, List, map, length, get_or, take, drop}
use Rattle.field.specs.Bytes.{u8_at, u32_at, u64_at, words}
use Rattle.part_set.specs.Masks.{has, count, parts_in, lowest_of}
use Rattle.paper.specs.Image.{Row, bytes_of_part}
use Rattle.residence.specs.Owners.{poorest_of}
use Rattle.writer.specs.Entries.{entry_of, Entered, remote_slots, body_from}

-- where the source row of entity i begins
abbrev pub source_at : List ℕ → List ℕ → ℕ → ℕ
source_at offs ord i = get_or offs (get_or ord i 0) 0

-- the entity that slot s of the boundary of the source row at `at` names: the row stands in the lowest part of its old residence set
abbrev pub face_at : List ℕ → List ℕ → List ℕ → ℕ → ℕ → ℕ
face_at image starts ent at s = get_or ent (get_or starts (lowest_of (u64_at image (at + 8))) 0 + s) 0

-- the entities of its boundary, where it has dimension d
unfoldable pub faces_at : List ℕ → List ℕ → List ℕ → ℕ → ℕ → List ℕ
faces_at image starts ent at d = map (face_at image starts ent at) (words (d + 1) (drop (at + 24) image))

-- the row in part q of entity i
unfoldable pub new_row : List ℕ → List ℕ → List ℕ → List ℕ → List ℕ → List ℕ → List ℕ → List ℕ → List ℕ → ℕ → ℕ → Row
new_row image offs starts ord ent counts masks base slots q i =
    let at = source_at offs ord i in
    let d = u8_at image (at + 4) in
    let m = get_or masks i 0 in
    record {
      number = u32_at image at;
      dim = d;
      owner = poorest_of counts (parts_in m);
      kind = u8_at image (at + 6);
      pad = 0;
      mask = m;
      value = u64_at image (at + 16);
      body = body_from (take 24 (drop (at + 24) image)) (entry_of masks base slots q) (faces_at image starts ent at d) d;
      slots = remote_slots slots (get_or base i 0) m q;
    }

-- what is there for the row of entity i in part q
pub record RowReady (image offs starts ord ent counts masks base slots : List ℕ) (q i : ℕ) : Type 0 where
  pub part : q < 64
  pub ordered : i < length ord
  pub offset : get_or ord i 0 < length offs
  pub masked : i < length masks
  pub based : i < length base
  pub counted : 64 ≤ length counts
  pub there : get_or base i 0 + count (get_or masks i 0) ≤ length slots
  pub own : has (get_or masks i 0) q ≡ true
  pub source : source_at offs ord i + 48 ≤ length image
  pub low : u8_at image (source_at offs ord i + 4) ≤ 3
  pub old : 0 < u64_at image (source_at offs ord i + 8)
  pub begun : lowest_of (u64_at image (source_at offs ord i + 8)) < length starts
  pub named : 0 < u8_at image (source_at offs ord i + 4) → (k : ℕ) → k < u8_at image (source_at offs ord i + 4) + 1
      → get_or starts (lowest_of (u64_at image (source_at offs ord i + 8))) 0 + u32_at image (source_at offs ord i + 24 + 4 * k) < length ent
  pub entered : 0 < u8_at image (source_at offs ord i + 4) → (k : ℕ) → k < u8_at image (source_at offs ord i + 4) + 1
      → Entered masks base slots q (face_at image starts ent (source_at offs ord i) (u32_at image (source_at offs ord i + 24 + 4 * k)))

-- ---- the rows of a part: n entities that `members` lists from `first` on

unfoldable pub new_rows : List ℕ → List ℕ → List ℕ → List ℕ → List ℕ → List ℕ → List ℕ → List ℕ → List ℕ → List ℕ → ℕ → ℕ → ℕ → List Row
new_rows image offs starts ord ent counts masks base slots members first n q =
    map (new_row image offs starts ord ent counts masks base slots q) (take n (drop first members))

pub record PartReady (image offs starts ord ent counts masks base slots members : List ℕ) (first n q : ℕ) : Type 0 where
  pub listed : first + n ≤ length members
  pub row : (k : ℕ) → k < n → RowReady image offs starts ord ent counts masks base slots q (get_or members (first + k) 0)

-- and they fit into the output from `at` on
abbrev pub PartRoom : List ℕ → List ℕ → List ℕ → List ℕ → List ℕ → List ℕ → List ℕ → List ℕ → List ℕ → List ℕ → ℕ → ℕ → ℕ → List ℕ → ℕ → Type 0
PartRoom image offs starts ord ent counts masks base slots members first n q out at =
    at + length (bytes_of_part (new_rows image offs starts ord ent counts masks base slots members first n q)) ≤ length out
