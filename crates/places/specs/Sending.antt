-- What the functions that place the objects anew ask. Assumes nothing: these are definitions.
use Rattle.std.specs.Prelude.{ℕ, ◌+◌, ◌≤◌, ◌<◌, ◌≡◌, List, length, get_or}
use Rattle.paper.specs.Placement.{WellPlaced}
use Rattle.index.specs.Index.{set_in, max_rows, Named}
use Rattle.residence.specs.Tables.{Covers}
use Rattle.moves.specs.Catalog.{Catalog}
use Rattle.demands.specs.Passed.{ListPassed}
use Rattle.plan.specs.Plan.{mesh, placing, Destined}

-- the other tables of a sound image, and a list that passes 13 to 16
pub record Sendable (b l starts keys covered ord dest : List ℕ) (m : ℕ) : Type 0 where
  pub named : Named b starts keys
  pub covers : Covers b starts covered
  pub catalog : Catalog (set_in b) keys ord covered m
  pub passed : ListPassed (set_in b) l
  pub room : max_rows + 1 ≤ length dest

-- the part of each object, and no object is counted yet
pub record Tallyable (b l starts covered dest counts : List ℕ) (n : ℕ) : Type 0 where
  pub covers : Covers b starts covered
  pub destined : Destined b l starts covered dest
  pub well : WellPlaced n (mesh b) (placing b l)
  pub room : 64 ≤ length counts
  pub none : (q : ℕ) → q < 64 → get_or counts q 0 ≡ 0
