-- `entities::low`: the lowest part of the set that is read is compared with the row's own. Assumes nothing.
use native.Mathlib.Omega.{arith}
use Rattle.rows.proofs.Laws.{row_there, offset_there}
use Rattle.entities.proofs.Own.{mask_some, low_read}
use Rattle.entities.proofs.low.Goals as goal

pub offset_of-requires-clause-slot_in_bounds : goal.offset_of-requires-clause-slot_in_bounds
offset_of-requires-clause-slot_in_bounds c =
    omega (arith, row_there c.args.tables.now.indexed _ _ c.requires.slot_in_bounds, c.args.tables.now.indexed.offs_room)

pub long_at-mask-requires : goal.long_at-mask-requires
long_at-mask-requires c = omega (arith, offset_there c.args.tables.now.indexed _ _ c.requires.slot_in_bounds, c.offset_of.ensures)

pub lowest-requires : goal.lowest-requires
lowest-requires c =
    rw (c.long_at-mask.ensures, c.offset_of.ensures) (mask_some c.args.tables.now.indexed c.requires.fields _ _ c.requires.slot_in_bounds)

pub returns : goal.returns
returns c =
    low_read c.args.tables.now.indexed c.requires.fields _ _ c.requires.slot_in_bounds _
    (rw (c.long_at-mask.ensures, c.offset_of.ensures) at c.lowest.ensures.0)
