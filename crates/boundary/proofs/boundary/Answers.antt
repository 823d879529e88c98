-- `boundary::boundary`: the judgement of the row's dimension. Assumes nothing.
use native.Mathlib.Omega.{arith}
use mathlib.Core.Path.{◌∙◌, refl}
use Rattle.boundary.proofs.Reading.{row_in, row_inside}
use Rattle.boundary.proofs.Laws.{ahead_there, dim_read, row_of_dim}
use Rattle.boundary.proofs.Judging.{low, vertex_is}
use Rattle.boundary.proofs.boundary.Goals as goal

pub offset_of-at-requires-clause-slot_in_bounds : goal.offset_of-at-requires-clause-slot_in_bounds
offset_of-at-requires-clause-slot_in_bounds c = row_in (ahead_there c.requires)

pub byte_at-requires : goal.byte_at-requires
byte_at-requires c = omega (arith, row_inside (ahead_there c.requires), c.offset_of-at.ensures)

pub returns-in-0 : goal.returns-in-0
returns-in-0 c =
    let a = c.requires in
    vertex_is (row_of_dim a c.args.tables.now.bytes (dim_read a c.offset_of-at.ensures c.byte_at.ensures.0 ∙ c.in-0.is)) refl

pub edge-requires : goal.edge-requires
edge-requires c =
    let a = c.requires in
    row_of_dim a c.args.tables.now.bytes (dim_read a c.offset_of-at.ensures c.byte_at.ensures.0 ∙ c.in-1.is)

pub triangle-requires : goal.triangle-requires
triangle-requires c =
    let a = c.requires in
    row_of_dim a c.args.tables.now.bytes (dim_read a c.offset_of-at.ensures c.byte_at.ensures.0 ∙ c.in-2.is)

pub tetrahedron-requires : goal.tetrahedron-requires
tetrahedron-requires c =
    let a = c.requires in
    let e = dim_read a c.offset_of-at.ensures c.byte_at.ensures.0 in
    let l = low (row_of_dim a c.args.tables.now.bytes refl) _ a.here in
    row_of_dim a c.args.tables.now.bytes (omega (arith, e, l))
