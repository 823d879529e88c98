-- `boundary::share`: one of the three edges is named by the other triangle. Assumes nothing.
use Rattle.boundary.proofs.Tests.{shares-three}
use Rattle.boundary.proofs.share.Goals as goal

pub returns : goal.returns
returns c = shares-three _ _ c.told-p c.contains.ensures.value c.contains-2.ensures.value c.contains-3.ensures.value
