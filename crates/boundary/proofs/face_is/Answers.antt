-- `boundary::face_is`: the slot is in range, and the name there has the dimension. Assumes nothing.
use Rattle.boundary.proofs.Standing.{face_over, face_read}
use Rattle.boundary.proofs.face_is.Goals as goal

pub returns-then-rows_in-slot : goal.returns-then-rows_in-slot
returns-then-rows_in-slot c =
    let a = c.args in
    face_over a.tables.now.starts.now a.keys.now a.part.0 a.dim a.slot c.rows_in.ensures c.if-rows_in-slot.true

pub returns : goal.returns
returns c =
    let a = c.args in
    face_read a.tables.now.starts.now a.keys.now a.part.0 a.dim a.slot c.rows_in.ensures c.if-rows_in-slot.false c.row_of-row.ensures
