-- `index::walk`: the parts, one a turn. The invariant: what is left to do from here gives what was to be done from the start. Assumes nothing.
use Rattle.index.proofs.PartTurn.{PartsInv}
use Rattle.index.proofs.walk.Given as goal

abbrev pub invariant-loop-p : goal.invariant-loop-p
invariant-loop-p l = PartsInv l.image l.n l.initial.offs l.initial.starts l.initial.keys l.offs l.starts l.keys l.p l.at l.row
