-- `residence::owner::count_open`: found so far are those among the first entries. Assumes nothing.
use Rattle.residence.proofs.owner.Laws.{OpenInv}
use Rattle.residence.proofs.owner.count_open.Given as goal

abbrev pub invariant-loop-entry : goal.invariant-loop-entry
invariant-loop-entry l = OpenInv l.covered l.first l.found l.entry-index
