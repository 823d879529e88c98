-- `places::tally`: the parts so far are counted. Assumes nothing.
use Rattle.places.proofs.Tallies.{Tallying}
use Rattle.places.proofs.tally.Given as goal

abbrev pub invariant-loop-p : goal.invariant-loop-p
invariant-loop-p l = Tallying l.source.tables.image.now l.source.tables.starts.now l.covered l.dest l.source.tables.parts l.initial.counts l.counts l.p l.left
