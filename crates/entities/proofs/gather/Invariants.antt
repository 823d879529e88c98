-- `entities::gather`: the lowest copies of the first p parts are there (`PartsFilled`). Assumes nothing.
use Rattle.entities.proofs.Gatherings.{PartsFilled}
use Rattle.entities.proofs.gather.Given as goal

abbrev pub invariant-loop-p : goal.invariant-loop-p
invariant-loop-p l = PartsFilled l.tables.image.now l.tables.starts.now l.initial.ord l.initial.st l.ord l.st l.tables.parts l.p l.k
