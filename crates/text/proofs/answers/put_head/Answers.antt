-- `text::answers::put_head` meets its contract: the mark, the version, the part count, the line feed. Assumes nothing.
use Rattle.decimal.proofs.Runs.{room_first, room_next, wrote_both}
use Rattle.text.proofs.answers.Words.{head_split, fields_feed}
use Rattle.text.proofs.answers.put_head.Goals as goal

pub put_text-mark-requires : goal.put_text-mark-requires
put_text-mark-requires c = room_first (head_split _) c.requires

pub put_fields-feed-requires : goal.put_fields-feed-requires
put_fields-feed-requires c = room_first (fields_feed _) (room_next (head_split _) c.requires c.put_text-mark.ensures)

pub put_byte-requires : goal.put_byte-requires
put_byte-requires c = room_next (fields_feed _) (room_next (head_split _) c.requires c.put_text-mark.ensures) c.put_fields-feed.ensures

pub returns : goal.returns
returns c = wrote_both (head_split _) c.put_text-mark.ensures (wrote_both (fields_feed _) c.put_fields-feed.ensures c.put_byte.ensures)
