-- `boundary::tetrahedron`: the slots stand, the triangles have the triples of four vertices, and each two share an edge. Assumes nothing.
use native.Mathlib.Omega.{arith}
use mathlib.Core.Path.{refl}
use Rattle.boundary.proofs.Laws.{ahead_there, part_keyed}
use Rattle.boundary.proofs.Judging.{rows_there, fails, tetrahedron_judged, triangles_there}
use Rattle.boundary.proofs.tetrahedron.Goals as goal

pub slots_at-triangles-requires : goal.slots_at-triangles-requires
slots_at-triangles-requires c = (omega arith, ((omega arith, omega arith), ahead_there c.requires.ahead))

pub stand-requires : goal.stand-requires
stand-requires c = (omega arith, part_keyed c.requires.ahead)

pub triangles_fit-requires : goal.triangles_fit-requires
triangles_fit-requires c = triangles_there c.requires refl c.slots_at-triangles.ensures c.stand.ensures c.if-stand.true

pub triangles_share-requires : goal.triangles_share-requires
triangles_share-requires c = rows_there c.requires 2 c.slots_at-triangles.result c.slots_at-triangles.ensures c.stand.ensures c.if-stand.true

pub returns-then-stand : goal.returns-then-stand
returns-then-stand c = tetrahedron_judged c.requires refl c.slots_at-triangles.ensures c.stand.ensures c.if-stand.true c.triangles_fit.ensures c.triangles_share.ensures

pub returns : goal.returns
returns c = fails c.requires 2 c.slots_at-triangles.result c.slots_at-triangles.ensures c.stand.ensures refl c.if-stand.false
