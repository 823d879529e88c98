-- What the judgements read off the tables of an image: the keys of the rows, which rows are covered, and the objects of each part.
-- Assumes nothing.
use Rattle.std.specs.Prelude.{ℕ, ◌+◌, ◌≤◌, ◌<◌, ◌≡◌, Bool, cond, List, [], length, get_or}
use Rattle.laws.specs.Lists.{some?, member}
use Rattle.paper.specs.Image.{Row}
use Rattle.paper.specs.Mesh.{slots_of, parts_of, objects_in}
use Rattle.index.specs.Index.{set_in, max_rows}

-- some row names slot s on its boundary
unfoldable pub slot_covered : List Row → ℕ → Bool
slot_covered rows s = some? (λ r. member s (slots_of r.dim r.body)) rows

-- 1 for each row that some row of its part names on its boundary, 0 for any other
pub record Covers (b starts covered : List ℕ) : Type 0 where
  pub room : max_rows + 1 ≤ length covered
  pub entry : (p s : ℕ) → s < length (get_or (set_in b) p []) → get_or covered (get_or starts p 0 + s) 0 ≡ cond (slot_covered (get_or (set_in b) p []) s) 1 0

-- how many partition objects each part has
pub record Counted (b counts : List ℕ) : Type 0 where
  pub room : 64 ≤ length counts
  pub entry : (p : ℕ) → p < length (set_in b) → get_or counts p 0 ≡ objects_in (parts_of (set_in b)) p
