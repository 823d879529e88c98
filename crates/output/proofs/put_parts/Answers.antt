-- `output::put_parts`: what stands behind the head grows by a part. Assumes nothing.
use Rattle.output.specs.Sources.{part_in}
use Rattle.output.proofs.Growing.{growing_none, growing_room, growing_more}
use Rattle.output.proofs.Members.{part_cut}
use Rattle.output.proofs.put_parts.Goals as goal

pub loop-q-init : goal.loop-q-init
loop-q-init c =
    growing_none (part_in c.args.rows.now c.args.members.now c.args.begins.now) c.args.parts c.args.out.now

pub put_part-at-requires-clause-part_room : goal.put_part-at-requires-clause-part_room
put_part-at-requires-clause-part_room c =
    rw (part_cut c.args.rows.now c.args.members.now c.args.begins.now c.loop-q.q) (growing_room c.loop-q.invariant c.requires.room c.loop-q-test.true)

pub loop-q-preserved : goal.loop-q-preserved
loop-q-preserved c =
    growing_more c.loop-q.invariant c.loop-q-test.true (rw (part_cut c.args.rows.now c.args.members.now c.args.begins.now c.loop-q.q) at c.put_part-at.ensures)
