-- `places::tally`: the parts so far are counted. Assumes nothing.
use native.Mathlib.Omega.{arith}
use Rattle.places.proofs.ObjectRows.{is_sound}
use Rattle.places.proofs.Tallies.{tallying_none, tallying-asked, tallying-fits, tallying-more, tallying_done}
use Rattle.places.proofs.tally.Goals as goal

pub loop-p-init : goal.loop-p-init
loop-p-init c = tallying_none c.args.source.now.tables.indexed c.requires

pub tally_part-left-requires : goal.tally_part-left-requires
tally_part-left-requires c =
    let source = c.args.source.now in
    tallying-asked source.tables.indexed c.requires (is_sound _ source.sound source.tables.bytes) _ _ _ c.loop-p.invariant c.loop-p-test.true _ _
    c.row_of-first.ensures c.rows_in-count.ensures

pub overflow_add-left : goal.overflow_add-left
overflow_add-left c =
    let source = c.args.source.now in
    omega (arith, tallying-fits source.tables.indexed c.requires (is_sound _ source.sound source.tables.bytes) _ _ _ c.loop-p.invariant c.loop-p-test.true _ _ c.row_of-first.ensures c.rows_in-count.ensures _ _ c.tally_part-left.ensures)

pub loop-p-preserved : goal.loop-p-preserved
loop-p-preserved c =
    let source = c.args.source.now in
    tallying-more source.tables.indexed c.requires (is_sound _ source.sound source.tables.bytes) _ _ _ c.loop-p.invariant c.loop-p-test.true _ _
    c.row_of-first.ensures c.rows_in-count.ensures _ _ c.tally_part-left.ensures

pub returns : goal.returns
returns c =
    let source = c.args.source.now in
    tallying_done source.tables.indexed c.requires (is_sound _ source.sound source.tables.bytes) _ _ _ c.loop-p.invariant (omega arith)
