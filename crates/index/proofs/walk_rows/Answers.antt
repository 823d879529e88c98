-- `index::walk_rows`: the rows of a part, one a turn. The invariant: what is left to do from here gives what was to be done from the start. Assumes nothing.
use mathlib.Core.Path.{ap, ◌∙◌}
use native.Mathlib.Omega.{arith}
use Rattle.paper.specs.Image.{row_length_of}
use Rattle.index.proofs.RowTurn.{rows_step, rows_cut, rows_past, rows_done}
use Rattle.index.proofs.walk_rows.Goals as goal

pub returns-then-image-to : goal.returns-then-image-to
returns-then-image-to c = rows_cut _ _ _ _ _ c.loop-i.invariant (omega (arith, c.loop-i-test.true)) c.if-image-to.true

pub loop-i-preserved : goal.loop-i-preserved
loop-i-preserved c =
    rows_step _ _ _ _ _ _ _ c.loop-i.invariant c.loop-i-test.true (omega arith)
    (c.row_length-to.ensures.0 ∙ ap row_length_of c.long_at.ensures) c.name_at.ensures

pub returns-then-image-to-2 : goal.returns-then-image-to-2
returns-then-image-to-2 c = rows_past _ _ _ _ _ c.loop-i.invariant c.if-image-to-2.true

pub returns : goal.returns
returns c = rows_done _ _ _ _ _ c.loop-i.invariant (omega (arith, c.loop-i-test.false)) c.if-image-to-2.false
