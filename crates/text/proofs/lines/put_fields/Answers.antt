-- `text::lines::put_fields` meets its contract: the numbers that are left give the text of all. Assumes nothing.
use Rattle.decimal.proofs.Runs.{left_room, left_next, left_done}
use Rattle.text.proofs.lines.Parts.{numbers_after, numbers_end}
use Rattle.text.proofs.lines.put_fields.Goals as goal

pub put_field-to-requires : goal.put_field-to-requires
put_field-to-requires c = left_room c.loop-number.invariant (numbers_after _ _ c.loop-number-test.true) c.requires

pub loop-number-preserved : goal.loop-number-preserved
loop-number-preserved c = left_next c.loop-number.invariant (numbers_after _ _ c.loop-number-test.true) c.put_field-to.ensures

pub returns : goal.returns
returns c = left_done c.loop-number.invariant (numbers_end _ _ c.loop-number-test.false)
