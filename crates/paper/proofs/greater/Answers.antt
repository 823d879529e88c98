-- `paper::greater`: the new value only where it is strictly greater, each arm by its test. Assumes nothing.
use Rattle.paper.specs.Box.{greater}
use Rattle.paper.proofs.greater.Goals as goal

pub returns-then-old-new : goal.returns-then-old-new
unfolding greater
returns-then-old-new c = simp c.if-old-new.true

pub returns-else-old-new : goal.returns-else-old-new
unfolding greater
returns-else-old-new c = simp c.if-old-new.false
