-- The cycle {mark}: the closures of the entries so far are marked; the dimension falls at each call. Assumes nothing.
use Rattle.marks.proofs.Closing.{Closing}
use Rattle.marks.proofs.+mark.Given as goal

abbrev pub decreases-mark : goal.decreases-mark
decreases-mark l = l.dim

abbrev pub invariant-loop-i : goal.invariant-loop-i
invariant-loop-i l = Closing l.tables.image.now l.tables.starts.now l.part.0 l.slot.0 l.dim l.q l.initial.work l.work l.i
