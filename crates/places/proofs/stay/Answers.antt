-- `places::stay`: the rows of the parts so far have their part. Assumes nothing.
use native.Mathlib.Omega.{arith}
use Rattle.places.proofs.OwnParts.{range_filled, staying_room, staying_more, staying_done}
use Rattle.places.proofs.stay.Goals as goal

pub overflow_add-first : goal.overflow_add-first
overflow_add-first c =
    omega (arith, staying_room c.args.tables.now.indexed c.requires _ _ c.loop-p.invariant c.loop-p-test.true _ _ c.row_of-first.ensures c.rows_in-count.ensures)

pub slice_bounds-fill-end : goal.slice_bounds-fill-end
slice_bounds-fill-end c =
    staying_room c.args.tables.now.indexed c.requires _ _ c.loop-p.invariant c.loop-p-test.true _ _ c.row_of-first.ensures c.rows_in-count.ensures

pub loop-p-preserved : goal.loop-p-preserved
loop-p-preserved c =
    let index = c.args.tables.now.indexed in
    let room = staying_room index c.requires _ _ c.loop-p.invariant c.loop-p-test.true _ _ c.row_of-first.ensures c.rows_in-count.ensures in
    staying_more index c.requires _ _ c.loop-p.invariant c.loop-p-test.true _ _ c.row_of-first.ensures c.rows_in-count.ensures _
    (range_filled _ _ _ _ room _ (c.fill.ensures.after (λ y h. h)))

pub returns : goal.returns
returns c = staying_done c.args.tables.now.indexed c.requires _ _ c.loop-p.invariant (omega arith)
