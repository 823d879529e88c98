-- `index::row_length`: 48 bytes, and 4 for each part but one. Assumes nothing.
use native.Mathlib.Omega.{arith}
use lib.Dec.{lit≤}
use Rattle.index.proofs.RowTurn.{short_row, long_row}
use Rattle.index.proofs.row_length.Goals as goal

pub returns-then-parts-lt2 : goal.returns-then-parts-lt2
returns-then-parts-lt2 c = (short_row _ _ c.count-parts.ensures.0 c.if-parts-lt2.true, lit≤ tt)

pub returns : goal.returns
returns c = (long_row _ _ c.count-parts.ensures.0 c.if-parts-lt2.false, omega arith)
