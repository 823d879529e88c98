-- `residence::owner::owner` judges as document 01 does. Assumes nothing.
use native.Mathlib.Omega.{arith}
use Rattle.residence.proofs.covered.Parts.{row_asked, row_read}
use Rattle.field.proofs.Reading.{bytes_all}
use Rattle.residence.proofs.owner.Laws.{owner_asked, owner_judged}
use Rattle.residence.proofs.owner.owner.Goals as goal

pub offset_of-at-requires-clause-slot_in_bounds : goal.offset_of-at-requires-clause-slot_in_bounds
offset_of-at-requires-clause-slot_in_bounds c = (row_asked c.args.tables.now.indexed _ _ c.requires.slot_in_bounds).1

pub long_at-mask-requires : goal.long_at-mask-requires
long_at-mask-requires c = omega (arith, row_read c.args.tables.now.indexed _ _ _ c.requires.slot_in_bounds c.offset_of-at.ensures)

pub byte_at-requires : goal.byte_at-requires
byte_at-requires c = omega (arith, row_read c.args.tables.now.indexed _ _ _ c.requires.slot_in_bounds c.offset_of-at.ensures)

pub owner_of-requires-clause-mask_nonzero : goal.owner_of-requires-clause-mask_nonzero
owner_of-requires-clause-mask_nonzero c =
    let t = c.args.tables.now in
    (owner_asked t.indexed (bytes_all _ t.bytes) c.requires.passed_ahead c.requires.counted _ _ c.requires.slot_in_bounds _ _ c.offset_of-at.ensures c.long_at-mask.ensures).0

pub returns : goal.returns
returns c =
    let t = c.args.tables.now in
    owner_judged t.indexed (bytes_all _ t.bytes) c.requires.passed_ahead c.requires.counted _ _ c.requires.slot_in_bounds _ _ c.offset_of-at.ensures c.long_at-mask.ensures
    _ _ c.byte_at.ensures.0 c.owner_of.ensures.0
