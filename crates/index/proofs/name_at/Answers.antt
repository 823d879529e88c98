-- `index::name_at`: the name of the row at an offset. Assumes nothing.
use mathlib.Core.Path.{◌∙◌}
use Rattle.index.proofs.RowTurn.{name_is}
use Rattle.index.proofs.name_at.Goals as goal

pub returns : goal.returns
returns c = c.name.ensures ∙ name_is c.args.image.now c.args.at _ _ c.byte_at.ensures.0 c.word_at.ensures
