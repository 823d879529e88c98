-- `text::answers::put_refusal` meets its contract: the word, the number, the place, the line feed. Assumes nothing.
use Rattle.decimal.proofs.Runs.{room_first, room_next, wrote_both}
use Rattle.text.proofs.answers.Words.{refusal_split, fields_feed}
use Rattle.text.proofs.answers.put_refusal.Goals as goal

pub put_text-word-requires : goal.put_text-word-requires
put_text-word-requires c = room_first (refusal_split _ _ _) c.requires

pub put_fields-feed-requires : goal.put_fields-feed-requires
put_fields-feed-requires c = room_first (fields_feed _) (room_next (refusal_split _ _ _) c.requires c.put_text-word.ensures)

pub put_byte-requires : goal.put_byte-requires
put_byte-requires c = room_next (fields_feed _) (room_next (refusal_split _ _ _) c.requires c.put_text-word.ensures) c.put_fields-feed.ensures

pub returns : goal.returns
returns c = wrote_both (refusal_split _ _ _) c.put_text-word.ensures (wrote_both (fields_feed _) c.put_fields-feed.ensures c.put_byte.ensures)
