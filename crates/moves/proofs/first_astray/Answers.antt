-- `moves::first_astray`: each entry is tested in turn. Assumes nothing.
use Rattle.std.proofs.Common.{rules, tests, ◌<◌}
use Rattle.std.proofs.lemmas.Iterator.{first_from_Range}
use Rattle.paper.specs.Move.{entry_part}
use Rattle.moves.proofs.Loops.{first_below}
use Rattle.moves.proofs.first_astray.Goals as goal

pub returns : goal.returns
returns c =
    first_below (λ i. entry_part c.args.list.now i < c.args.n) c.entries.ensures c.find.result
    (first_from_Range _ _ _ c.find.result (λ i. entry_part c.args.list.now i < c.args.n → ⊥) (λ i. entry_part c.args.list.now i < c.args.n) c.find.ensures.ran
    (λ x q k. search (rules, tests)) (λ x q k. search (rules, tests)))
