-- `sizing::relocate`: the tables of the move, one after the other. Assumes nothing.
use Rattle.field.proofs.Reading.{bytes_all}
use Rattle.sizing.proofs.Placing.{tallyable, marks_asked, joinable, words_there}
use Rattle.sizing.proofs.relocate.Goals as goal

pub tally-moved-requires : goal.tally-moved-requires
tally-moved-requires c =
    let movable = c.requires.movable in
    tallyable c.requires.surveyed (bytes_all c.args.source.now.tables.image.now c.args.source.now.tables.bytes) movable.passed c.destinations.ensures movable.empty.counts_room movable.empty.none

pub mark_all-requires-clause-placed : goal.mark_all-requires-clause-placed
mark_all-requires-clause-placed c =
    let movable = c.requires.movable in
    marks_asked c.requires.surveyed (bytes_all c.args.source.now.tables.image.now c.args.source.now.tables.bytes) movable.passed c.destinations.ensures (words_there c.requires.surveyed.source movable)

pub join-requires : goal.join-requires
join-requires c =
    let surveyed = c.requires.surveyed in
    let movable = c.requires.movable in
    joinable surveyed (bytes_all c.args.source.now.tables.image.now c.args.source.now.tables.bytes) movable.passed c.destinations.ensures (words_there surveyed.source movable) c.mark_all.ensures surveyed.named.room movable.empty.ent_room
