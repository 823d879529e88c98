-- `moves::first_unfit`: each entry is tested in turn. Assumes nothing.
use Rattle.std.proofs.Common.{rules, tests, T}
use Rattle.std.proofs.lemmas.Iterator.{first_from_Range}
use Rattle.paper.specs.Move.{entry_fitting}
use Rattle.moves.proofs.Loops.{first_below}
use Rattle.moves.proofs.first_unfit.Goals as goal

pub returns : goal.returns
returns c =
    first_below (λ i. T (entry_fitting c.args.list.now i)) c.entries.ensures c.find.result
    (first_from_Range _ _ _ c.find.result (λ i. T (entry_fitting c.args.list.now i) → ⊥) (λ i. T (entry_fitting c.args.list.now i)) c.find.ensures.ran
    (λ x q k. search (rules, tests)) (λ x q k. search (rules, tests)))
