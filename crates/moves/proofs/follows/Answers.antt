-- `moves::follows`: the first entry follows none, and any other is compared with the one before it. Assumes nothing.
use Rattle.moves.proofs.Whole.{first-ascends, later_ascends}
use Rattle.moves.proofs.follows.Goals as goal

pub returns-then-i-eq0 : goal.returns-then-i-eq0
returns-then-i-eq0 c = first-ascends _ _ c.if-i-eq0.true

pub returns-else-i-eq0 : goal.returns-else-i-eq0
returns-else-i-eq0 c = later_ascends _ _ _ _ c.if-i-eq0.false c.name_of.ensures c.name_of-else-i-eq0.ensures
