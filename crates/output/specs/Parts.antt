-- The parts of the new image as they are written, one after another: the entities of part q stand in `members` from begins q to begins (q + 1).
-- Assumes nothing.
use Rattle.std.specs.Prelude.{ℕ, zero, suc, ◌+◌, ◌-◌, ◌≤◌, ◌<◌, List, [], ◌++◌, length, get_or}
use Rattle.paper.specs.Image.{bytes_of_part}
use Rattle.writer.specs.Rows.{new_rows, PartReady}

-- f 0, .., f (q - 1), one behind the other
unfoldable pub pieces : (ℕ → List ℕ) → ℕ → List ℕ
pieces f zero = []
pieces f (suc q) = pieces f q ++ f q

-- the bytes of part q
abbrev pub part_by : List ℕ → List ℕ → List ℕ → List ℕ → List ℕ → List ℕ → List ℕ → List ℕ → List ℕ → List ℕ → List ℕ → ℕ → List ℕ
part_by image offs starts ord ent counts masks base slots members begins q =
    bytes_of_part (new_rows image offs starts ord ent counts masks base slots members (get_or begins q 0) (get_or begins (q + 1) 0 - get_or begins q 0) q)

-- what is there for n parts, which stand behind the 8 bytes of the head
pub record PartsReady (image offs starts ord ent counts masks base slots members begins : List ℕ) (n : ℕ) (out : List ℕ) : Type 0 where
  pub few : n ≤ 64
  pub begun : n < length begins
  pub up : (q : ℕ) → q < n → get_or begins q 0 ≤ get_or begins (q + 1) 0
  pub part : (q : ℕ) → q < n
      → PartReady image offs starts ord ent counts masks base slots members (get_or begins q 0) (get_or begins (q + 1) 0 - get_or begins q 0) q
  pub room : 8 + length (pieces (part_by image offs starts ord ent counts masks base slots members begins) n) ≤ length out
