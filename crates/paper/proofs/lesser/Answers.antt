-- `paper::lesser`: the new value only where it is strictly less, each arm by its test. Assumes nothing.
use Rattle.paper.specs.Box.{lesser}
use Rattle.paper.proofs.lesser.Goals as goal

pub returns-then-new-old : goal.returns-then-new-old
unfolding lesser
returns-then-new-old c = simp c.if-new-old.true

pub returns-else-new-old : goal.returns-else-new-old
unfolding lesser
returns-else-new-old c = simp c.if-new-old.false
