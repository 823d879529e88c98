-- `copies::copies` meets its contract: the twins, and the parts that hold the name. Assumes nothing.
use native.Mathlib.Omega.{arith}
use mathlib.Core.Path.{sym}
use borrow.Author.Tests.{not-true, not-false}
use Rattle.rows.specs.Tables.{set_of}
use Rattle.copies.proofs.Placed.{offset_asked, stands, room_48}
use Rattle.copies.proofs.Holders.{all_searchable, copies-judged, twins_fail}
use Rattle.copies.proofs.copies.Goals as goal

pub returns-then-not-twins : goal.returns-then-not-twins
returns-then-not-twins c = twins_fail (set_of c.args.tables.now) _ _ c.twins.ensures (not-true _ c.if-not-twins.true-raw)

pub offset_of-at-requires-clause-slot_in_bounds : goal.offset_of-at-requires-clause-slot_in_bounds
offset_of-at-requires-clause-slot_in_bounds c = (offset_asked c.requires.ready _ _ c.requires.slot_in_bounds).1

pub long_at-mask-requires : goal.long_at-mask-requires
long_at-mask-requires c = omega (arith, room_48 c.requires.ready (stands c.requires.ready _ _ _ c.requires.slot_in_bounds c.offset_of-at.ensures))

pub name_at-name-requires : goal.name_at-name-requires
name_at-name-requires c = omega (arith, room_48 c.requires.ready (stands c.requires.ready _ _ _ c.requires.slot_in_bounds c.offset_of-at.ensures))

pub holders_listed-requires : goal.holders_listed-requires
holders_listed-requires c = all_searchable c.requires.ready (sym c.args.tables.now.indexed.count)

pub returns : goal.returns
returns c =
    copies-judged c.requires.ready (stands c.requires.ready _ _ _ c.requires.slot_in_bounds c.offset_of-at.ensures)
    (sym c.args.tables.now.indexed.count) c.long_at-mask.ensures c.name_at-name.ensures c.twins.ensures (not-false _ c.if-not-twins.false-raw) c.holders_listed.ensures
