-- `text::lines::put_row` meets its contract: the numbers as they are read, the copies, the line feed. Assumes nothing.
use native.Mathlib.Omega.{arith}
use mathlib.Core.Path.{sym}
use Rattle.decimal.proofs.Runs.{room_first, room_next, room_as, wrote_both, wrote_as}
use Rattle.text.proofs.lines.Parts.{numbers_split, row_split, feed_split}
use Rattle.text.proofs.lines.Copies.{head_room}
use Rattle.text.proofs.lines.Rows.{numbers_read}
use Rattle.text.proofs.lines.put_row.Goals as goal

pub byte_at-dim-requires : goal.byte_at-dim-requires
byte_at-dim-requires c = omega (arith, head_room _ c.requires.row_there)

pub word_at-number-requires : goal.word_at-number-requires
word_at-number-requires c = omega (arith, head_room _ c.requires.row_there)

pub long_at-mask-requires : goal.long_at-mask-requires
long_at-mask-requires c = omega (arith, head_room _ c.requires.row_there)

pub byte_at-owner-requires : goal.byte_at-owner-requires
byte_at-owner-requires c = omega (arith, head_room _ c.requires.row_there)

pub put_decimal-second-requires : goal.put_decimal-second-requires
put_decimal-second-requires c =
    let a = c.args in
    let read = numbers_read a.image.now a.row a.part.0 a.slot.0 c.byte_at-dim.ensures.0 c.word_at-number.ensures c.long_at-mask.ensures c.byte_at-owner.ensures.0 in
    room_first (numbers_split _ _) (room_as (sym read) (room_first (row_split _ _ _) c.requires.room))

pub put_fields-copies-requires : goal.put_fields-copies-requires
put_fields-copies-requires c =
    let a = c.args in
    let read = numbers_read a.image.now a.row a.part.0 a.slot.0 c.byte_at-dim.ensures.0 c.word_at-number.ensures c.long_at-mask.ensures c.byte_at-owner.ensures.0 in
    room_next (numbers_split _ _) (room_as (sym read) (room_first (row_split _ _ _) c.requires.room)) c.put_decimal-second.ensures

pub put_copies-feed-requires-clause-room : goal.put_copies-feed-requires-clause-room
put_copies-feed-requires-clause-room c =
    let a = c.args in
    let read = numbers_read a.image.now a.row a.part.0 a.slot.0 c.byte_at-dim.ensures.0 c.word_at-number.ensures c.long_at-mask.ensures c.byte_at-owner.ensures.0 in
    let numbers = wrote_as read (wrote_both (numbers_split _ _) c.put_decimal-second.ensures c.put_fields-copies.ensures) in
    room_first (feed_split _ _) (room_next (row_split _ _ _) c.requires.room numbers)

pub put_byte-requires : goal.put_byte-requires
put_byte-requires c =
    let a = c.args in
    let read = numbers_read a.image.now a.row a.part.0 a.slot.0 c.byte_at-dim.ensures.0 c.word_at-number.ensures c.long_at-mask.ensures c.byte_at-owner.ensures.0 in
    let numbers = wrote_as read (wrote_both (numbers_split _ _) c.put_decimal-second.ensures c.put_fields-copies.ensures) in
    room_next (feed_split _ _) (room_next (row_split _ _ _) c.requires.room numbers) c.put_copies-feed.ensures

pub returns : goal.returns
returns c =
    let a = c.args in
    let read = numbers_read a.image.now a.row a.part.0 a.slot.0 c.byte_at-dim.ensures.0 c.word_at-number.ensures c.long_at-mask.ensures c.byte_at-owner.ensures.0 in
    let numbers = wrote_as read (wrote_both (numbers_split _ _) c.put_decimal-second.ensures c.put_fields-copies.ensures) in
    wrote_both (row_split _ _ _) numbers (wrote_both (feed_split _ _) c.put_copies-feed.ensures c.put_byte.ensures)
