-- `text::lines::put_copies` meets its contract: the copies in the parts that are left give all copies. Assumes nothing.
use Rattle.text.proofs.lines.Copies.{CopiesLeft}
use Rattle.text.proofs.lines.put_copies.Given as goal

abbrev pub invariant-loop-other : goal.invariant-loop-other
invariant-loop-other l = CopiesLeft l.image l.initial.out l.at l.initial.other-iterator l.initial.from l.out l.to l.other-iterator l.from
