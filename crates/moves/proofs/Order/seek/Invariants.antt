-- `moves::Order::seek`: a name is sought upwards. The invariant: all before the cursor is below the name. Assumes nothing.
use Rattle.moves.specs.Catalog.{Behind}
use Rattle.moves.proofs.Order.seek.Given as goal

abbrev pub invariant-loop-j : goal.invariant-loop-j
invariant-loop-j l = Behind l.self.keys.now l.self.ord.now l.self.count l.name l.j
