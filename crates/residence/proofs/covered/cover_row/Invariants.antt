-- `residence::covered::cover_row`: the slots read so far are marked. Assumes nothing.
use Rattle.residence.proofs.covered.Rows.{RowInv}
use Rattle.residence.proofs.covered.cover_row.Given as goal

abbrev pub invariant-loop-i : goal.invariant-loop-i
invariant-loop-i l = RowInv l.image l.at l.first l.initial.covered l.covered l.i
