-- `moves::entry_fits`: an entry that is cut short fails at once, and of a whole one each field is read. Assumes nothing.
use Rattle.moves.proofs.Whole.{cut_short, whole_fits}
use Rattle.moves.proofs.entry_fits.Goals as goal

pub returns-then-i-list : goal.returns-then-i-list
returns-then-i-list c = cut_short _ _ c.if-i-list.true

pub returns : goal.returns
returns c = whole_fits _ _ _ _ _ c.if-i-list.false c.half_at-zeros.ensures.0 c.byte_at-dim.ensures.0 c.follows-after.ensures
