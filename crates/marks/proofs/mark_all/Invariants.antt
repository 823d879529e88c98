-- `marks::mark_all`: the parts so far are marked, and no word behind them. Assumes nothing.
use Rattle.marks.proofs.Parts.{AllInv}
use Rattle.marks.proofs.mark_all.Given as goal

abbrev pub invariant-loop-p : goal.invariant-loop-p
invariant-loop-p l = AllInv l.tables.image.now l.tables.starts.now l.covered l.dest l.initial.work l.work l.p
