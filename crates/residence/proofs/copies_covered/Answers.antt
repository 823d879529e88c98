-- `residence::copies_covered`: the copies that are left give what all give. Assumes nothing.
use Rattle.residence.proofs.Laws.{copy-row-there, copies-turn, copies_open, copies_end}
use Rattle.residence.proofs.copies_covered.Goals as goal

pub bounds-covered-row : goal.bounds-covered-row
bounds-covered-row c = copy-row-there c.loop-part.invariant c.in-Some.ensures.steps c.word_at.ensures c.row_of-row.ensures

pub returns-then-covered-row-ne1 : goal.returns-then-covered-row-ne1
returns-then-covered-row-ne1 c = copies_open c.loop-part.invariant c.in-Some.ensures.steps c.word_at.ensures c.row_of-row.ensures c.if-covered-row-ne1.true

pub loop-part-preserved : goal.loop-part-preserved
loop-part-preserved c = copies-turn c.loop-part.invariant c.in-Some.ensures.steps c.word_at.ensures c.row_of-row.ensures c.if-covered-row-ne1.false

pub returns : goal.returns
returns c = copies_end c.loop-part.invariant c.in-None.ensures.steps.0
