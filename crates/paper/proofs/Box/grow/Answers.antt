-- `paper::Box::grow`: six calls, joined by `cc`. Assumes nothing.
use Rattle.paper.specs.Box.{grow}
use Rattle.paper.proofs.Box.grow.Goals as goal

pub returns : goal.returns
unfolding grow
returns c = cc
