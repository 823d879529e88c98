-- `boundary::triangle`: the slots stand, and the edges have the pairs of three vertices. Assumes nothing.
use native.Mathlib.Omega.{arith}
use mathlib.Core.Path.{refl}
use Rattle.boundary.proofs.Laws.{ahead_there, part_keyed}
use Rattle.boundary.proofs.Judging.{rows_there, fails, triangle_judged}
use Rattle.boundary.proofs.triangle.Goals as goal

pub slots_at-edges-requires : goal.slots_at-edges-requires
slots_at-edges-requires c = (omega arith, ((omega arith, omega arith), ahead_there c.requires.ahead))

pub stand-requires : goal.stand-requires
stand-requires c = (omega arith, part_keyed c.requires.ahead)

pub edges_fit-requires : goal.edges_fit-requires
edges_fit-requires c = rows_there c.requires 1 c.slots_at-edges.result c.slots_at-edges.ensures c.stand.ensures c.if-stand.true

pub returns-then-stand : goal.returns-then-stand
returns-then-stand c = triangle_judged c.requires refl c.slots_at-edges.ensures c.stand.ensures c.if-stand.true c.edges_fit.ensures

pub returns : goal.returns
returns c = fails c.requires 1 c.slots_at-edges.result c.slots_at-edges.ensures c.stand.ensures refl c.if-stand.false
