-- `writer::NewRows::put_rows`: the rows that are left give all. Assumes nothing.
use native.Mathlib.Nat.{zero-add}
use Rattle.writer.proofs.Parts.{rows_none, runs_room, runs_more, rows_done}
use Rattle.writer.proofs.NewRows.put_rows.Goals as goal

pub loop-entity-init : goal.loop-entity-init
loop-entity-init c = rows_none c.args.self.now c.args.part.0 c.args.members.now c.requires.room

pub put_row-to-requires-clause-row_ready : goal.put_row-to-requires-clause-row_ready
put_row-to-requires-clause-row_ready c = rw zero-add at (c.requires.part_ready.row c.loop-entity.entity-index c.loop-entity-test.true)

pub put_row-to-requires-clause-room : goal.put_row-to-requires-clause-room
put_row-to-requires-clause-room c = runs_room c.loop-entity.invariant c.loop-entity-test.true

pub loop-entity-preserved : goal.loop-entity-preserved
loop-entity-preserved c = runs_more c.loop-entity.invariant c.loop-entity-test.true c.put_row-to.ensures

pub returns : goal.returns
returns c = rows_done c.args.self.now c.args.part.0 c.args.members.now c.loop-entity.invariant c.loop-entity-test.false
