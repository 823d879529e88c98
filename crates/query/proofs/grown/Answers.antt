-- `query::grown`: by whether there is a box so far. Assumes nothing.
use Rattle.paper.specs.Box.{grow_all, box_around}
use Rattle.query.specs.Vertices.{further}
use Rattle.query.proofs.grown.Goals as goal

pub returns-in-None : goal.returns-in-None
unfolding further grow_all box_around
returns-in-None c = rw c.in-None.is

pub returns-in-Some : goal.returns-in-Some
unfolding further grow_all
returns-in-Some c = rw (c.in-Some.is, c.grow.ensures)
