-- `sound::first_fault`: what is left of the parts and rows gives the answer, in both loops. Assumes nothing.
use native.Mathlib.Omega.{arith}
use Rattle.rows.proofs.Laws.{part-rows}
use Rattle.sound.proofs.Loops.{enter, skip, hit, leave, over}
use Rattle.sound.proofs.first_fault.Goals as goal

pub loop-s-init : goal.loop-s-init
loop-s-init g c = enter c.parts.invariant (omega (arith, c.parts-test.true, c.args.tables.now.indexed.count))

pub loop-s-preserved : goal.loop-s-preserved
loop-s-preserved g c =
    let part = part-rows c.args.tables.now.indexed _ c.parts-test.true in
    skip c.loop-s.invariant (omega (arith, part, c.rows_in-rows.ensures)) c.passes.ensures c.if-not-passes.false

pub parts-preserved : goal.parts-preserved
parts-preserved g c =
    let part = part-rows c.args.tables.now.indexed _ c.parts-test.true in
    leave c.loop-s.invariant (omega (arith, part, c.rows_in-rows.ensures))

pub returns : goal.returns
returns g c = elim c.parts-test.branch [
  | goal.else-parts-test w ↦ rw w.fault-is (over c.parts.invariant (omega (arith, w.parts-test.false, c.args.tables.now.indexed.count)))
  | goal.then-parts-test+then-loop-s-test+then-not-passes w ↦
      let part = part-rows c.args.tables.now.indexed _ w.parts-test.true in
      rw w.fault-is (hit w.loop-s.invariant (omega (arith, part, w.loop-s-test.true, w.rows_in-rows.ensures)) w.passes.ensures w.if-not-passes.true)
]
