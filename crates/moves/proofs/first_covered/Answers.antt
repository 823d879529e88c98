-- `moves::first_covered`: each name is there, so it is the one at its lower bound. Assumes nothing.
use Rattle.std.proofs.Common.{rules, tests, ◌<◌, get_or, length}
use native.Mathlib.Omega.{arith}
use Rattle.paper.specs.Move.{entry_name}
use Rattle.moves.specs.Catalog.{Uncovered}
use Rattle.moves.proofs.Loops.{first_by_sweep}
use Rattle.moves.proofs.Cursor.{found, uncovered_at}
use Rattle.moves.proofs.first_covered.Goals as goal

pub sweep-requires-clause-callable : goal.sweep-requires-clause-callable
sweep-requires-clause-callable c = λ i j h v.
    let w = found c.args.order.now.listing v (c.requires.known i h) in
    let a : j < length c.args.order.now.ord.now = omega (arith, w.0, c.args.order.now.listing.within) in
    let b : get_or c.args.order.now.ord.now j 0 < length c.args.covered.now = c.requires.room j w.0 in
    search rules

pub returns : goal.returns
returns c =
    first_by_sweep (λ i. Uncovered c.args.order.now.keys.now c.args.order.now.ord.now c.args.covered.now c.args.order.now.count (entry_name c.args.list.now i)) c.sweep.result c.sweep.ensures
    (λ i j h v t. let w = found c.args.order.now.listing v (c.requires.known i h) in (j, w.0, w.1, search (rules, tests)))
    (λ i j h v t p. let o = uncovered_at c.args.covered.now c.args.order.now.listing v p in search (rules, tests))
