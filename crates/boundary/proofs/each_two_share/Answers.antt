-- `boundary::each_two_share`: the six pairs, one by one. Assumes nothing.
use Rattle.boundary.proofs.Tests.{shares-four}
use Rattle.boundary.proofs.each_two_share.Goals as goal

pub returns : goal.returns
returns c = shares-four _ c.told-triangles _ _ _ _ _ _ c.share.ensures c.share-2.ensures c.share-3.ensures c.share-4.ensures c.share-5.ensures c.share-6.ensures
