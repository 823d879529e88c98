-- `marks::mark_part`: the closures of the objects so far are marked. Assumes nothing.
use Rattle.marks.proofs.Parts.{PartInv}
use Rattle.marks.proofs.mark_part.Given as goal

abbrev pub invariant-loop-s : goal.invariant-loop-s
invariant-loop-s l = PartInv l.tables.image.now l.tables.starts.now l.covered l.dest l.part.0 l.initial.work l.work l.s
