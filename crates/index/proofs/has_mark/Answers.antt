-- `index::has_mark`: the first three bytes. Assumes nothing.
use Rattle.index.proofs.HeadLaws.{mark_read}
use Rattle.index.proofs.has_mark.Goals as goal

pub returns : goal.returns
returns c = mark_read _ c.starts_with.ensures.value
