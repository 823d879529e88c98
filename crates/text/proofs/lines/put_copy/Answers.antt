-- `text::lines::put_copy` meets its contract: the part, a colon, the slot. Assumes nothing.
use Rattle.decimal.proofs.Runs.{room_first, room_next, wrote_both}
use Rattle.text.proofs.lines.Parts.{byte_first, copy_split}
use Rattle.text.proofs.lines.put_copy.Goals as goal

pub put_field-colon-requires : goal.put_field-colon-requires
put_field-colon-requires c = room_first (copy_split _ _) c.requires

pub put_byte-number-requires : goal.put_byte-number-requires
put_byte-number-requires c = room_first (byte_first _ _) (room_next (copy_split _ _) c.requires c.put_field-colon.ensures)

pub put_decimal-requires : goal.put_decimal-requires
put_decimal-requires c =
    room_next (byte_first _ _) (room_next (copy_split _ _) c.requires c.put_field-colon.ensures) c.put_byte-number.ensures

pub returns : goal.returns
returns c =
    wrote_both (copy_split _ _) c.put_field-colon.ensures
    (wrote_both (byte_first _ _) c.put_byte-number.ensures c.put_decimal.ensures)
