-- `writer::NewRows::put_rows`: the rows that are left give all. Assumes nothing.
use Rattle.writer.proofs.Parts.{RowsLeft}
use Rattle.writer.proofs.NewRows.put_rows.Given as goal

abbrev pub invariant-loop-entity : goal.invariant-loop-entity
invariant-loop-entity l = RowsLeft l.self l.part.0 l.members l.initial.out l.at l.out l.entity-index l.to
