-- What the function that joins the marks of copies asks. Assumes nothing: these are definitions.
use Rattle.std.specs.Prelude.{ℕ, ◌+◌, ◌≤◌, ◌<◌, ◌≡◌, List, [], length, get_or}
use Rattle.part_set.specs.Masks.{has}
use Rattle.paper.specs.Placement.{WellPlaced}
use Rattle.index.specs.Index.{set_in, max_rows}
use Rattle.residence.specs.Tables.{Covers}
use Rattle.marks.specs.Closures.{part_marks}
use Rattle.plan.specs.Plan.{mesh, placing, Destined}

-- the words of the rows have the bits of the objects of their part, and there is room for the tables
pub record Joinable (b l starts covered dest work masks ent : List ℕ) (n : ℕ) : Type 0 where
  pub covers : Covers b starts covered
  pub destined : Destined b l starts covered dest
  pub well : WellPlaced n (mesh b) (placing b l)
  pub marked : (p t r : ℕ) → t < length (get_or (set_in b) p []) → has (get_or work (get_or starts p 0 + t) 0) r ≡ part_marks b starts covered dest p t r
  pub words : get_or starts n 0 ≤ length work
  pub masks_room : max_rows + 1 ≤ length masks
  pub ent_room : max_rows + 1 ≤ length ent
