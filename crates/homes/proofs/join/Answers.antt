-- `homes::join`: the entities so far have their sets, and their rows their numbers (`Homed`). Assumes nothing.
use native.Mathlib.Omega.{arith}
use mathlib.Core.Path.{refl}
use Rattle.std.proofs.Props.{props}
use Rattle.plan.proofs.Sources.{of_source}
use Rattle.homes.proofs.EachEntity.{homed_done, lowest_listed, one-there, homed_more}
use Rattle.homes.proofs.join.Goals as goal

pub bounds-source-g : goal.bounds-source-g
bounds-source-g c =
    let source = c.args.source.now in
    of_source source (Prim.hlevel props)
    (λ s. omega (arith, lowest_listed s c.requires source.tables.bytes _ c.loop-i-test.true, source.tables.indexed.offs_room))

pub overflow_cast-i : goal.overflow_cast-i
overflow_cast-i c = of_source c.args.source.now (Prim.hlevel props) (λ s. omega (arith, s.ordered.few))

pub join_one-requires : goal.join_one-requires
join_one-requires c =
    let source = c.args.source.now in
    of_source source (Prim.hlevel props)
    (λ s. one-there s c.requires source.tables.bytes _ c.loop-i-test.true _ _ refl refl _ c.loop-i.invariant.same-ent)

pub offset_bounds-masks-i : goal.offset_bounds-masks-i
offset_bounds-masks-i c = of_source c.args.source.now (Prim.hlevel props) (λ s. omega (arith, s.ordered.few))

pub bounds-masks-i : goal.bounds-masks-i
bounds-masks-i c =
    of_source c.args.source.now (Prim.hlevel props) (λ s. omega (arith, s.ordered.few, c.requires.masks_room, c.loop-i.invariant.same_masks))

pub loop-i-preserved : goal.loop-i-preserved
loop-i-preserved c =
    let source = c.args.source.now in
    of_source source (Prim.hlevel props)
    (λ s. homed_more s c.requires source.tables.bytes _ c.loop-i-test.true _ _ refl refl c.loop-i.invariant _ _ (omega arith) c.join_one.ensures)

pub returns : goal.returns
returns c =
    let source = c.args.source.now in
    of_source source (Prim.hlevel props) (λ s. homed_done s c.requires source.tables.bytes _ _ _ c.loop-i.invariant (omega arith))
