-- `residence::owner::owner_of`: the best so far and the parts that are left give the poorest of all. Assumes nothing.
use Rattle.residence.proofs.owner.Laws.{owner_start, owner_turn, owner_end}
use Rattle.residence.proofs.owner.owner_of.Goals as goal

pub loop-part-init : goal.loop-part-init
loop-part-init c = owner_start c.rest.ensures c.lowest-best.ensures.0 c.lowest-best.ensures.1 (cc)

pub loop-part-preserved : goal.loop-part-preserved
loop-part-preserved c = owner_turn c.loop-part.invariant c.in-Some.ensures.steps c.poorer-best.ensures

pub returns : goal.returns
returns c = owner_end _ _ _ _ c.loop-part.invariant c.in-None.ensures.steps.0
