-- `moves::first_unknown`: the name of an entry is there exactly where it is the one at its lower bound. Assumes nothing.
use Rattle.std.proofs.Common.{rules, tests}
use Rattle.paper.specs.Move.{entry_name}
use Rattle.moves.specs.Catalog.{Present}
use Rattle.moves.proofs.Loops.{first_by_sweep}
use Rattle.moves.proofs.Cursor.{present_at, at_present}
use Rattle.moves.proofs.first_unknown.Goals as goal

pub returns : goal.returns
returns c =
    first_by_sweep (λ i. Present c.args.order.now.keys.now c.args.order.now.ord.now c.args.order.now.count (entry_name c.args.list.now i)) c.sweep.result c.sweep.ensures
    (λ i j h v t. present_at c.args.order.now.listing v (search (rules, tests))) (λ i j h v t p. let w = at_present c.args.order.now.listing v p in search (rules, tests))
