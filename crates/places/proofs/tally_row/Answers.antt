-- `places::tally_row`: a covered row counts nothing, an object one in its part. Assumes nothing.
use Rattle.places.proofs.CountedRows.{row_skipped, object_counted}
use Rattle.places.proofs.tally_row.Goals as goal

pub returns-then-covered-g-ne0 : goal.returns-then-covered-g-ne0
returns-then-covered-g-ne0 c = row_skipped _ _ _ _ _ c.if-covered-g-ne0.true

pub returns : goal.returns
returns c = object_counted c.requires c.if-covered-g-ne0.false c.from-q.ensures _
