-- `query::lookup_in`: what is found from the present part on is what is found in all. Assumes nothing.
use native.Mathlib.Omega.{arith}
use mathlib.Core.Path.{◌≡◌, sym, ◌∙◌}
use Rattle.std.proofs.Common.{rules}
use Rattle.paper.specs.Mesh.{name_of}
use Rattle.paper.proofs.Outcomes.{as_refused}
use Rattle.index.proofs.Answers.{hit, miss, searchable, hit-row}
use Rattle.rows.specs.Tables.{set_of}
use Rattle.rows.proofs.Laws.{row_there, offset_there}
use Rattle.query.proofs.Accepted.{in_order, lookup_is}
use Rattle.query.proofs.Looking.{over, later, here}
use Rattle.query.proofs.lookup_in.Goals as goal

pub find-requires : goal.find-requires
find-requires c =
    let index = c.requires.sound_index in
    searchable index.indexed _ c.loop-p-test.true c.requires.named (in_order _ index.passed _)

pub offset_of-at-requires-clause-slot_in_bounds : goal.offset_of-at-requires-clause-slot_in_bounds
offset_of-at-requires-clause-slot_in_bounds c =
    let index = c.requires.sound_index.indexed in
    let row = hit-row index _ c.loop-p-test.true c.requires.named _ _ (hit _ _ c.in-Ok.is c.find.ensures) in
    omega (arith, row_there index _ _ row.0, index.offs_room)

pub home_at-requires : goal.home_at-requires
home_at-requires c =
    let index = c.requires.sound_index.indexed in
    let row = hit-row index _ c.loop-p-test.true c.requires.named _ _ (hit _ _ c.in-Ok.is c.find.ensures) in
    omega (arith, c.offset_of-at.ensures, offset_there index _ _ row.0)

pub returns-in-Ok : goal.returns-in-Ok
returns-in-Ok c =
    let index = c.requires.sound_index in
    let name : c.name-name.result ≡ name_of c.args.dimension c.args.number.0 = search rules in
    record {
      answer =
          here _ index.indexed c.requires.named _ c.loop-p-test.true c.loop-p.invariant _ (in_order _ index.passed _) (hit _ _ c.in-Ok.is c.find.ensures)
          c.offset_of-at.ensures c.home_at.ensures
          ∙ sym (lookup_is _ _ index.sound _ _ name);
    }

pub loop-p-preserved : goal.loop-p-preserved
loop-p-preserved c = later _ c.requires.sound_index.indexed c.requires.named _ c.loop-p-test.true c.loop-p.invariant _ (miss _ _ c.in_default.is c.find.ensures)

pub returns : goal.returns
returns c =
    let index = c.requires.sound_index in
    let name : c.name-name.result ≡ name_of c.args.dimension c.args.number.0 = search rules in
    record {
      answer =
          as_refused c.into.ensures ∙ over _ (set_of c.args.tables.now) c.loop-p.p (omega (arith, c.loop-p-test.false, index.indexed.count)) c.loop-p.invariant
          ∙ sym (lookup_is _ _ index.sound _ _ name);
    }
