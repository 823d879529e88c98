-- `query::home_at`: the residence set and the owner of a row, read from the image. Assumes nothing.
use Rattle.paper.specs.Lookup.{home_of}
use Rattle.index.proofs.RowFields.{row_mask, row_owner}
use Rattle.query.proofs.home_at.Goals as goal

pub returns : goal.returns
unfolding home_of
returns c =
    let a = c.args in
    cc (row_mask a.image.now a.at, row_owner a.image.now a.at)
