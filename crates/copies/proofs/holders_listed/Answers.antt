-- `copies::holders_listed` meets its contract: what is left of the test from part q on gives the whole test. Assumes nothing.
use Rattle.copies.specs.Copies.{holders_all_listed}
use Rattle.copies.proofs.Loops.{left_more, left_fails, left_done}
use Rattle.copies.proofs.Holders.{not_listed, listed}
use Rattle.copies.proofs.holders_listed.Goals as goal

pub returns-then-held-has : goal.returns-then-held-has
unfolding holders_all_listed
returns-then-held-has c = left_fails _ _ _ c.loop-q.invariant c.loop-q-test.true
    (not_listed c.holds-held.ensures c.has.ensures c.if-held-has.true)

pub loop-q-preserved : goal.loop-q-preserved
loop-q-preserved c = left_more _ _ _ c.loop-q.invariant c.loop-q-test.true
    (listed c.holds-held.ensures c.has.ensures c.if-held-has.false)

pub returns : goal.returns
unfolding holders_all_listed
returns c = left_done _ _ _ c.loop-q.invariant c.loop-q-test.false
