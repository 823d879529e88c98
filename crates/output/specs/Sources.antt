-- The parts of the new image by what the writer has. Assumes nothing.
use Rattle.std.specs.Prelude.{ℕ, List}
use Rattle.writer.specs.declared.NewRows.{NewRows}
use Rattle.output.specs.Parts.{part_by, PartsReady}

-- the bytes of part q
abbrev pub part_in : NewRows → List ℕ → List ℕ → ℕ → List ℕ
part_in w members begins q =
    part_by w.image.now w.offs.now w.starts.now w.ord.now w.ent.now w.counts.now w.numbering.masks.now w.numbering.base.now w.numbering.slots.now members begins q

abbrev pub PartsReadyIn : NewRows → List ℕ → List ℕ → ℕ → List ℕ → Type 0
PartsReadyIn w members begins n out =
    PartsReady w.image.now w.offs.now w.starts.now w.ord.now w.ent.now w.counts.now w.numbering.masks.now w.numbering.base.now w.numbering.slots.now members begins n out
