-- `boundary::edge`: where the two slots stand, two vertices always bound an edge. Assumes nothing.
use native.Mathlib.Omega.{arith}
use mathlib.Core.Path.{refl}
use Rattle.boundary.proofs.Laws.{ahead_there, part_keyed}
use Rattle.boundary.proofs.Judging.{edge_judged}
use Rattle.boundary.proofs.edge.Goals as goal

pub slots_at-requires : goal.slots_at-requires
slots_at-requires c = (omega arith, ((omega arith, omega arith), ahead_there c.requires.ahead))

pub stand-requires : goal.stand-requires
stand-requires c = (omega arith, part_keyed c.requires.ahead)

pub returns : goal.returns
returns c = edge_judged c.requires refl c.slots_at.ensures c.stand.ensures
