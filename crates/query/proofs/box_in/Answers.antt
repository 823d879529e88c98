-- `query::box_in`: the box so far, grown by the vertices of the rows that are left, is that of all rows. Assumes nothing.
use Prim.Native.Nat.{◌<◌}
use native.Mathlib.Omega.{arith}
use mathlib.Core.Path.{sym, ◌∙◌}
use mathlib.Core.List.{[]}
use lib.ListN.{length, get_or}
use Rattle.paper.proofs.Outcomes.{as_refused}
use Rattle.rows.specs.Tables.{set_of}
use Rattle.rows.proofs.Laws.{part-rows, row_there, offset_there}
use Rattle.query.proofs.Accepted.{row_at_lem, body_at, no_part, part-answer}
use Rattle.query.proofs.Growing.{start, more, done}
use Rattle.query.proofs.box_in.Goals as goal

pub returns-then-tables-part : goal.returns-then-tables-part
returns-then-tables-part c =
    record { answer = as_refused c.into.ensures ∙ sym (no_part _ _ c.requires.sound _ (omega (arith, c.if-tables-part.true, c.requires.indexed.count))) }

pub loop-s-init : goal.loop-s-init
loop-s-init c = start _

pub offset_of-at-requires-clause-slot_in_bounds : goal.offset_of-at-requires-clause-slot_in_bounds
offset_of-at-requires-clause-slot_in_bounds c =
    let index = c.requires.indexed in
    let rows = part-rows index c.args.part.0 c.if-tables-part.false in
    omega (arith, row_there index c.args.part.0 c.loop-s.s (omega (arith, rows, c.rows_in-rows.ensures, c.loop-s-test.true)), index.offs_room)

pub with_row-extent-requires : goal.with_row-extent-requires
with_row-extent-requires c =
    let index = c.requires.indexed in
    let rows = part-rows index c.args.part.0 c.if-tables-part.false in
    let there : c.loop-s.s < length (get_or (set_of c.args.tables.now) c.args.part.0 []) = omega (arith, rows, c.rows_in-rows.ensures, c.loop-s-test.true) in
    record {
      at_in_bounds = omega (arith, c.offset_of-at.ensures, offset_there index c.args.part.0 c.loop-s.s there);
      fits = body_at index c.args.part.0 _ there c.offset_of-at.ensures c.requires.passed;
    }

pub loop-s-preserved : goal.loop-s-preserved
loop-s-preserved c =
    let index = c.requires.indexed in
    let rows = part-rows index c.args.part.0 c.if-tables-part.false in
    let there : c.loop-s.s < length (get_or (set_of c.args.tables.now) c.args.part.0 []) = omega (arith, rows, c.rows_in-rows.ensures, c.loop-s-test.true) in
    more (get_or (set_of c.args.tables.now) c.args.part.0 []) _ _ there c.loop-s.invariant (row_at_lem index c.args.part.0 _ there c.offset_of-at.ensures)
    c.with_row-extent.ensures

pub returns : goal.returns
returns c =
    let index = c.requires.indexed in
    let rows = part-rows index c.args.part.0 c.if-tables-part.false in
    record {
      answer =
          part-answer _ _ c.requires.sound _ (omega (arith, c.if-tables-part.false, index.count)) _
          (done (get_or (set_of c.args.tables.now) c.args.part.0 []) c.loop-s.s (omega (arith, rows, c.rows_in-rows.ensures, c.loop-s-test.false)) c.loop-s.invariant);
    }
