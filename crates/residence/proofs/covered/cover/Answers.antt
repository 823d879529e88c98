-- `residence::covered::cover`: the parts so far are marked, and no entry behind them. Assumes nothing.
use Rattle.residence.proofs.covered.Parts.{cover_turn}
use Rattle.residence.proofs.covered.cover.Goals as goal

pub loop-p-preserved : goal.loop-p-preserved
loop-p-preserved c = cover_turn c.requires _ _ _ c.loop-p-test.true c.loop-p.invariant c.cover_part.ensures
