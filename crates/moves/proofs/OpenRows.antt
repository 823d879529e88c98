-- Which rows are objects: the table of covered rows has 0 where no row of the part has the entity on its boundary. Assumes nothing.
use Prim.Native.Nat.{ℕ, ◌+◌, ◌<◌}
use mathlib.Core.Path.{◌≡◌, ap, ◌∙◌}
use mathlib.Core.Bool.{not}
use mathlib.Core.List.{List, []}
use lib.ListN.{length, get_or}
use lib.Dec.{eqb}
use Rattle.laws.proofs.Tests.{bit_open}
use Rattle.paper.specs.Sound.{name_of_row}
use Rattle.demands.proofs.Sound.Facts.{Copied}
use Rattle.demands.proofs.Sound.Rows.{row}
use Rattle.demands.proofs.ForCode.Covered.{covered}
use Rattle.index.specs.Index.{set_in}
use Rattle.residence.specs.Tables.{slot_covered, Covers}
use Rattle.residence.proofs.Names.{covered_slot}

pub row_open : {b starts table : List ℕ} → Copied (set_in b) → Covers b starts table → (p s : ℕ) → s < length (get_or (set_in b) p [])
    → eqb (get_or table (get_or starts p 0 + s) 0) 0 ≡ not (covered (set_in b) p (name_of_row (row (set_in b) p s)))
row_open {b} f covers p s h =
    let S = set_in b in
    ap (λ (x : ℕ). eqb x 0) (covers.entry p s h) ∙ bit_open (slot_covered (get_or S p []) s) ∙ ap not (covered_slot S f p s h)
