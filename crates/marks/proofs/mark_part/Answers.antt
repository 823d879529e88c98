-- `marks::mark_part`: the closures of the objects so far are marked. Assumes nothing.
use Rattle.marks.proofs.Parts.{placed_again, part_start, part-here, part_turn, part_end}
use Rattle.marks.proofs.mark_part.Goals as goal

pub loop-s-init : goal.loop-s-init
loop-s-init c = part_start _ _ _ _ _ _ c.requires.closed

pub mark_object-requires : goal.mark_object-requires
mark_object-requires c =
    record { placed = placed_again c.requires.placed _ c.loop-s.invariant.marks.same; slot_in_bounds = part-here c.requires.placed _ c.requires.part_in_bounds _ c.rows_in-s-end.ensures _ c.loop-s-test.true; closed = c.loop-s.invariant.closed }

pub loop-s-preserved : goal.loop-s-preserved
loop-s-preserved c =
    part_turn c.requires.placed _ c.requires.part_in_bounds _ c.rows_in-s-end.ensures _ _ _ c.loop-s-test.true c.loop-s.invariant c.mark_object.ensures

pub returns : goal.returns
returns c =
    part_end c.requires.placed _ c.requires.part_in_bounds _ c.rows_in-s-end.ensures _ _ c.loop-s-test.false c.loop-s.invariant
