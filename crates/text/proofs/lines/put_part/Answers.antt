-- `text::lines::put_part` meets its contract: the lines of the rows that are left give the lines of all. Assumes nothing.
use Prim.Native.Nat.{◌<◌}
use native.Mathlib.Omega.{arith}
use mathlib.Core.List.{[]}
use mathlib.Core.Path.{sym}
use lib.ListN.{length, get_or}
use Rattle.rows.specs.Tables.{set_of}
use Rattle.decimal.proofs.Runs.{left_all, left_room, left_next, left_done, room_as, wrote_as, texts_next, texts_end}
use Rattle.text.proofs.lines.Rows.{part_lines_lem, rows_are, offset_asked, row_stands, row-text}
use Rattle.text.proofs.lines.put_part.Goals as goal

pub loop-s-init : goal.loop-s-init
loop-s-init c = left_all (part_lines_lem _ _)

pub offset_of-row-requires-clause-slot_in_bounds : goal.offset_of-row-requires-clause-slot_in_bounds
offset_of-row-requires-clause-slot_in_bounds c =
    let tables = c.args.tables.now in
    let rows = rows_are tables.indexed c.requires.fits c.args.part.0 c.requires.part_in_bounds c.rows_in-rows.ensures in
    (offset_asked tables.indexed c.requires.fits _ _ (omega (arith, c.loop-s-test.true, rows))).1

pub put_row-to-requires : goal.put_row-to-requires
put_row-to-requires c =
    let p = c.args.part.0 in
    let tables = c.args.tables.now in
    let rows = rows_are tables.indexed c.requires.fits p c.requires.part_in_bounds c.rows_in-rows.ensures in
    let there : c.loop-s.s < length (get_or (set_of tables) p []) = omega (arith, c.loop-s-test.true, rows) in
    record {
      row_there = row_stands tables.indexed c.requires.fits p _ there c.offset_of-row.ensures;
      room = room_as (row-text tables.indexed c.requires.fits p _ there c.offset_of-row.ensures) (left_room c.loop-s.invariant (texts_next _ _ _ there) c.requires.room);
    }

pub loop-s-preserved : goal.loop-s-preserved
loop-s-preserved c =
    let p = c.args.part.0 in
    let tables = c.args.tables.now in
    let rows = rows_are tables.indexed c.requires.fits p c.requires.part_in_bounds c.rows_in-rows.ensures in
    let there : c.loop-s.s < length (get_or (set_of tables) p []) = omega (arith, c.loop-s-test.true, rows) in
    left_next c.loop-s.invariant (texts_next _ _ _ there)
    (wrote_as (sym (row-text tables.indexed c.requires.fits p _ there c.offset_of-row.ensures)) c.put_row-to.ensures)

pub returns : goal.returns
returns c =
    let rows = rows_are c.args.tables.now.indexed c.requires.fits c.args.part.0 c.requires.part_in_bounds c.rows_in-rows.ensures in
    left_done c.loop-s.invariant (texts_end _ _ _ (omega (arith, c.loop-s-test.false, rows)))
