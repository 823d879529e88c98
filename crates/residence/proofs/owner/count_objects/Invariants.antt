-- `residence::owner::count_objects`: the parts so far are counted. Assumes nothing.
use Rattle.residence.proofs.owner.Laws.{CountInv}
use Rattle.residence.proofs.owner.count_objects.Given as goal

abbrev pub invariant-loop-p : goal.invariant-loop-p
invariant-loop-p l = CountInv l.starts l.covered l.n l.initial.counts l.counts l.p
