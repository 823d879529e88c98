-- `marks::mark_object`: a covered row marks nothing, an object its closure. Assumes nothing.
use native.Mathlib.Omega.{arith}
use Rattle.marks.proofs.Rows.{known_asked, known_read}
use Rattle.marks.proofs.Objects.{object_known, covered_there, dest_there, object_covered, object-markable, object-marked}
use Rattle.marks.proofs.mark_object.Goals as goal

pub bounds-covered-row : goal.bounds-covered-row
bounds-covered-row c = covered_there c.requires.placed _ _ c.requires.slot_in_bounds _ c.row_of-row.ensures

pub returns-then-covered-row-ne0 : goal.returns-then-covered-row-ne0
returns-then-covered-row-ne0 c =
    object_covered c.requires.placed _ _ c.requires.slot_in_bounds _ c.row_of-row.ensures c.if-covered-row-ne0.true

pub offset_of-at-requires-clause-slot_in_bounds : goal.offset_of-at-requires-clause-slot_in_bounds
offset_of-at-requires-clause-slot_in_bounds c = (known_asked (object_known c.requires.placed _ _ c.requires.slot_in_bounds)).1

pub byte_at-dim-requires : goal.byte_at-dim-requires
byte_at-dim-requires c =
    omega (arith, known_read (object_known c.requires.placed _ _ c.requires.slot_in_bounds) c.offset_of-at.ensures)

pub bounds-dest-row : goal.bounds-dest-row
bounds-dest-row c = dest_there c.requires.placed _ _ c.requires.slot_in_bounds _ c.row_of-row.ensures

pub mark-requires : goal.mark-requires
mark-requires c =
    object-markable c.requires.placed _ _ c.requires.slot_in_bounds _ c.row_of-row.ensures c.if-covered-row-ne0.false _ _ _
    c.offset_of-at.ensures c.byte_at-dim.ensures.0 c.from.ensures c.requires.closed

pub returns : goal.returns
returns c =
    object-marked c.requires.placed _ _ c.requires.slot_in_bounds _ c.row_of-row.ensures c.if-covered-row-ne0.false _ _ _
    c.offset_of-at.ensures c.byte_at-dim.ensures.0 c.from.ensures _ c.mark.ensures
