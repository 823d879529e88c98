-- `index::walk_rows`: the rows of a part, one a turn. The invariant: what is left to do from here gives what was to be done from the start. Assumes nothing.
use Prim.Native.Nat.{◌+◌, ◌-◌}
use Rattle.index.proofs.RowTurn.{RowsInv}
use Rattle.index.proofs.walk_rows.Given as goal

abbrev pub invariant-loop-i : goal.invariant-loop-i
invariant-loop-i l = RowsInv l.image l.first l.count l.at l.initial.offs l.initial.keys l.offs l.keys (l.first + l.count - l.i) l.to l.i
