-- `text::answers::put_sound` meets its contract: the head, then the lines of the set. Assumes nothing.
use mathlib.Core.Path.{sym, ap}
use Rattle.paper.specs.Listing.{head_line}
use Rattle.decimal.proofs.Runs.{room_first, room_next, room_as, wrote_both, wrote_as}
use Rattle.text.proofs.answers.Words.{sound_split}
use Rattle.text.proofs.answers.put_sound.Goals as goal

pub put_head-rows-requires : goal.put_head-rows-requires
put_head-rows-requires c = room_as (ap head_line c.args.tables.now.indexed.count) (room_first (sound_split _) c.requires.room)

pub put_set-requires-clause-room : goal.put_set-requires-clause-room
put_set-requires-clause-room c = room_next (sound_split _) c.requires.room (wrote_as (ap head_line (sym c.args.tables.now.indexed.count)) c.put_head-rows.ensures)

pub returns : goal.returns
returns c = wrote_both (sound_split _) (wrote_as (ap head_line (sym c.args.tables.now.indexed.count)) c.put_head-rows.ensures) c.put_set.ensures
