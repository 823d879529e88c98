-- `residence::residence` judges as document 01 does. Assumes nothing.
use native.Mathlib.Omega.{arith}
use Rattle.residence.proofs.covered.Parts.{row_asked, row_read}
use Rattle.rows.proofs.Laws.{row_there}
use Rattle.field.proofs.Reading.{bytes_all}
use Rattle.residence.proofs.Laws.{mask_own, one-judged, copies-ready, several-judged}
use Rattle.residence.proofs.residence.Goals as goal

pub offset_of-at-requires-clause-slot_in_bounds : goal.offset_of-at-requires-clause-slot_in_bounds
offset_of-at-requires-clause-slot_in_bounds c = (row_asked c.args.tables.now.indexed _ _ c.requires.slot_in_bounds).1

pub long_at-mask-requires : goal.long_at-mask-requires
long_at-mask-requires c = omega (arith, row_read c.args.tables.now.indexed _ _ _ c.requires.slot_in_bounds c.offset_of-at.ensures)

pub without-others-requires : goal.without-others-requires
without-others-requires c =
    let t = c.args.tables.now in
    mask_own t.indexed (bytes_all _ t.bytes) c.requires.passed_ahead c.requires.covers _ _ c.requires.slot_in_bounds _ _ c.offset_of-at.ensures c.long_at-mask.ensures

pub returns-then-others-eq0 : goal.returns-then-others-eq0
returns-then-others-eq0 c =
    let t = c.args.tables.now in
    one-judged t.indexed (bytes_all _ t.bytes) c.requires.passed_ahead c.requires.covers _ _ c.requires.slot_in_bounds _ _ c.offset_of-at.ensures c.long_at-mask.ensures
    _ c.without-others.ensures.1 c.if-others-eq0.true

pub bounds-covered-row : goal.bounds-covered-row
bounds-covered-row c = omega (arith, row_there c.args.tables.now.indexed _ _ c.requires.slot_in_bounds, c.requires.covers.room, c.row_of-row.ensures)

pub copies_covered-requires : goal.copies_covered-requires
copies_covered-requires c =
    let t = c.args.tables.now in
    copies-ready t.indexed (bytes_all _ t.bytes) c.requires.passed_ahead c.requires.covers _ _ c.requires.slot_in_bounds _ _ c.offset_of-at.ensures c.long_at-mask.ensures
    _ c.without-others.ensures.1

pub returns : goal.returns
returns c =
    let t = c.args.tables.now in
    several-judged t.indexed (bytes_all _ t.bytes) c.requires.passed_ahead c.requires.covers _ _ c.requires.slot_in_bounds _ _ c.offset_of-at.ensures c.long_at-mask.ensures
    _ c.without-others.ensures.1 c.without-others.ensures.0 c.if-others-eq0.false _ _ c.row_of-row.ensures c.copies_covered.ensures
