-- `places::tally_part`: the rows so far are counted. Assumes nothing.
use Rattle.places.proofs.CountedRows.{Counting}
use Rattle.places.proofs.tally_part.Given as goal

abbrev pub invariant-loop-s : goal.invariant-loop-s
invariant-loop-s l = Counting l.covered l.dest l.p l.first l.count l.initial.counts l.counts l.s l.left
