-- `query::with_row`: a row of dimension 0 grows the box, any other leaves it. Assumes nothing.
use native.Mathlib.Omega.{arith}
use Rattle.index.specs.Index.{row_from}
use Rattle.index.proofs.RowFields.{row_dim}
use Rattle.query.proofs.Growing.{body_of_vertex, by_vertex, no_vertex}
use Rattle.query.proofs.with_row.Goals as goal

pub point_at-requires-clause-fits : goal.point_at-requires-clause-fits
point_at-requires-clause-fits c = body_of_vertex (row_from c.args.image.now c.args.at) (omega (arith, row_dim c.args.image.now c.args.at)) c.requires.fits

pub returns-then-byte_at-eq0 : goal.returns-then-byte_at-eq0
returns-then-byte_at-eq0 c =
    by_vertex _ (row_from c.args.image.now c.args.at) (omega (arith, row_dim c.args.image.now c.args.at, c.if-byte_at-eq0.true)) c.point_at.ensures c.grown.ensures

pub returns : goal.returns
returns c = no_vertex _ (row_from c.args.image.now c.args.at) (λ e. omega (arith, row_dim c.args.image.now c.args.at, c.if-byte_at-eq0.false))
