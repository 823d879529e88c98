-- `entities::gather`: the lowest copies of the first p parts are there (`PartsFilled`). Assumes nothing.
use Rattle.entities.proofs.Gatherings.{filled_none, filled_room, filled_more, filled_done}
use Rattle.entities.proofs.gather.Goals as goal

pub loop-p-init : goal.loop-p-init
loop-p-init c = filled_none c.args.tables.now.indexed _ _ c.requires.room.0 c.requires.room.1

pub gather_part-k-requires-clause-part_room : goal.gather_part-k-requires-clause-part_room
gather_part-k-requires-clause-part_room c =
    filled_room c.args.tables.now.indexed _ _ c.requires.room.0 c.requires.room.1 _ _ _ _ c.loop-p.invariant c.loop-p-test.true

pub loop-p-preserved : goal.loop-p-preserved
loop-p-preserved c =
    filled_more c.args.tables.now.indexed _ _ c.requires.room.0 c.requires.room.1 _ _ _ _ c.loop-p.invariant _ _
    c.loop-p-test.true c.gather_part-k.ensures

pub returns : goal.returns
returns c =
    filled_done c.args.tables.now.indexed _ _ c.requires.room.0 c.requires.room.1 _ _ _ _ c.loop-p.invariant c.loop-p-test.false
