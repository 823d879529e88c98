-- `moves::sweep`: the invariant: the test passes each entry so far, and the cursor has passed no name that is left. Assumes nothing.
use Rattle.moves.proofs.Cursor.{Sweeping}
use Rattle.moves.proofs.sweep.Given as goal

abbrev pub invariant-loop-i : goal.invariant-loop-i
invariant-loop-i g l = Sweeping l.list l.order.keys.now l.order.ord.now l.order.count (goal.F-post g l.passes) l.from l.i
