-- `index::has_count`: the bytes at 5 to 7. Assumes nothing.
use Rattle.paper.specs.Sound.{parts_counted}
use Rattle.index.proofs.has_count.Goals as goal

pub returns : goal.returns
unfolding parts_counted
returns c = cc
