-- `entities::gather_part`: what stands before `to` and what is to come are the whole (`Going`). Assumes nothing.
use native.Mathlib.Omega.{arith}
use Rattle.entities.proofs.Parts.{low_count, row_count, rows_few, going_none, going_more, going_done}
use Rattle.entities.proofs.gather_part.Goals as goal

pub loop-s-init : goal.loop-s-init
loop-s-init c = going_none _ _ _ _ _

pub overflow_cast-ord : goal.overflow_cast-ord
overflow_cast-ord c =
    let index = c.args.tables.now.indexed in
    let room = c.requires.part_room in
    omega (arith, row_count index room, rows_few index room)

pub loop-s-preserved : goal.loop-s-preserved
loop-s-preserved c =
    going_more _ _ _ _ _ _ _ _ _ _ c.loop-s.invariant (omega (arith, row_count c.args.tables.now.indexed c.requires.part_room)) (omega arith)
    c.row_of.ensures (low_count _ _ _ c.low.ensures c.from-to.ensures)

pub returns : goal.returns
returns c =
    going_done _ _ _ _ _ _ _ _ c.loop-s.invariant c.requires.part_room.room (omega (arith, row_count c.args.tables.now.indexed c.requires.part_room))
