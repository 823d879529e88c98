-- `residence::covered::cover_part`: the slots that the rows so far name are marked. Assumes nothing.
use Rattle.residence.proofs.covered.Parts.{part_start, part-row-asked, part-row, part_turn}
use Rattle.residence.proofs.covered.cover_part.Goals as goal

pub loop-s-init : goal.loop-s-init
loop-s-init c = part_start c.requires.standing _ c.requires.part_lt_n

pub offset_of-at-requires-clause-slot_in_bounds : goal.offset_of-at-requires-clause-slot_in_bounds
offset_of-at-requires-clause-slot_in_bounds c = (part-row-asked c.requires.standing _ c.requires.part_lt_n _ _ c.row_of-first.ensures c.rows_in-s-end.ensures c.loop-s.s 0 _ c.loop-s-test.true c.loop-s.invariant).1

pub cover_row-requires : goal.cover_row-requires
cover_row-requires c =
    part-row c.requires.standing _ c.requires.part_lt_n _ _ c.row_of-first.ensures c.rows_in-s-end.ensures c.loop-s.s _ _ c.loop-s-test.true c.loop-s.invariant c.offset_of-at.ensures

pub loop-s-preserved : goal.loop-s-preserved
loop-s-preserved c =
    part_turn c.requires.standing _ c.requires.part_lt_n _ _ c.row_of-first.ensures c.rows_in-s-end.ensures c.loop-s.s _ _ c.loop-s-test.true c.loop-s.invariant c.offset_of-at.ensures _ c.cover_row.ensures
