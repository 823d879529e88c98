-- `residence::covered::cover`: the parts so far are marked, and no entry behind them. Assumes nothing.
use Rattle.residence.proofs.covered.Parts.{CoverInv}
use Rattle.residence.proofs.covered.cover.Given as goal

abbrev pub invariant-loop-p : goal.invariant-loop-p
invariant-loop-p l = CoverInv l.tables.image.now l.tables.starts.now l.tables.parts l.initial.covered l.covered l.p
