-- `places::stay`: the rows of the parts so far have their part. Assumes nothing.
use Rattle.places.proofs.OwnParts.{Staying}
use Rattle.places.proofs.stay.Given as goal

abbrev pub invariant-loop-p : goal.invariant-loop-p
invariant-loop-p l = Staying l.tables.starts.now l.tables.parts l.initial.dest l.dest l.p
