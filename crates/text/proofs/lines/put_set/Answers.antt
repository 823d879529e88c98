-- `text::lines::put_set` meets its contract: the lines of the parts that are left give the lines of all. Assumes nothing.
use Prim.Native.Nat.{◌<◌}
use native.Mathlib.Omega.{arith}
use lib.ListN.{length}
use Rattle.rows.specs.Tables.{set_of}
use Rattle.decimal.proofs.Runs.{left_all, left_room, left_next, left_done, texts_next, texts_end}
use Rattle.text.proofs.lines.Rows.{set_lines}
use Rattle.text.proofs.lines.put_set.Goals as goal

pub loop-p-init : goal.loop-p-init
loop-p-init c = left_all (set_lines _)

pub put_part-to-requires-clause-room : goal.put_part-to-requires-clause-room
put_part-to-requires-clause-room c =
    let there : c.loop-p.p < length (set_of c.args.tables.now) = omega (arith, c.loop-p-test.true, c.args.tables.now.indexed.count) in
    left_room c.loop-p.invariant (texts_next _ _ _ there) c.requires.room

pub loop-p-preserved : goal.loop-p-preserved
loop-p-preserved c =
    let there : c.loop-p.p < length (set_of c.args.tables.now) = omega (arith, c.loop-p-test.true, c.args.tables.now.indexed.count) in
    left_next c.loop-p.invariant (texts_next _ _ _ there) c.put_part-to.ensures

pub returns : goal.returns
returns c = left_done c.loop-p.invariant (texts_end _ _ _ (omega (arith, c.loop-p-test.false, c.args.tables.now.indexed.count)))
