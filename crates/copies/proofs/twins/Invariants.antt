-- `copies::twins` meets its contract: the parts that are left to ask give what all other parts of the residence set give. Assumes nothing.
use Rattle.paper.specs.Sound.{twin_agrees}
use Rattle.index.specs.Index.{set_in}
use Rattle.copies.proofs.Loops.{Walks}
use Rattle.copies.proofs.twins.Given as goal

abbrev pub invariant-loop-other : goal.invariant-loop-other
invariant-loop-other l = Walks (twin_agrees (set_in l.tables.image.now) l.part.0 l.slot.0) l.others l.other-iterator
