-- `places::tally_part`: the rows so far are counted. Assumes nothing.
use native.Mathlib.Omega.{arith}
use Rattle.places.proofs.CountedRows.{counting_none, counting_row, counting_fits, counting_more, counting_done}
use Rattle.places.proofs.tally_part.Goals as goal

pub loop-s-init : goal.loop-s-init
loop-s-init c = counting_none _ _ _ _ _ _

pub tally_row-requires : goal.tally_row-requires
tally_row-requires c = counting_row _ _ _ c.loop-s.invariant c.requires c.loop-s-test.true

pub overflow_add-left : goal.overflow_add-left
overflow_add-left c = omega (arith, counting_fits _ _ _ c.loop-s.invariant _ _ c.from-left.ensures, c.requires.few)

pub loop-s-preserved : goal.loop-s-preserved
loop-s-preserved c = counting_more _ _ _ c.loop-s.invariant c.loop-s-test.true _ _ _ c.from-left.ensures c.tally_row.ensures

pub returns : goal.returns
returns c = counting_done _ _ _ c.loop-s.invariant (omega arith)
