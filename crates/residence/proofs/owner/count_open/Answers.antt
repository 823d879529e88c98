-- `residence::owner::count_open`: found so far are those among the first entries. Assumes nothing.
use Rattle.residence.proofs.owner.Laws.{open_start, open_turn}
use Rattle.residence.proofs.owner.count_open.Goals as goal

pub loop-entry-init : goal.loop-entry-init
loop-entry-init c = open_start _ _

pub loop-entry-preserved : goal.loop-entry-preserved
loop-entry-preserved c = open_turn _ _ _ _ _ _ c.requires c.loop-entry.invariant c.loop-entry-test.true c.from-found.ensures
