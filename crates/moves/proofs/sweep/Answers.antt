-- `moves::sweep`: the invariant: the test passes each entry so far, and the cursor has passed no name that is left. Assumes nothing.
use Rattle.moves.proofs.Cursor.{next}
use Rattle.moves.proofs.sweep.Goals as goal

pub loop-i-preserved : goal.loop-i-preserved
loop-i-preserved g c = next c.requires.ascending c.loop-i.invariant (rw c.name_of.ensures at c.seek-from.ensures) (c.if-not-passes.ensures)
