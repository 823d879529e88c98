-- `residence::owner::owner_of`: the best so far and the parts that are left give the poorest of all. Assumes nothing.
use Rattle.residence.proofs.owner.Laws.{OwnerInv}
use Rattle.residence.proofs.owner.owner_of.Given as goal

abbrev pub invariant-loop-part : goal.invariant-loop-part
invariant-loop-part l = OwnerInv l.counts l.mask l.best l.part-iterator
