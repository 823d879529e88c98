-- `boundary::ascend`: each two neighbours are compared. Assumes nothing.
use Rattle.std.proofs.Common.{rules}
use Rattle.std.proofs.lemmas.List.Sorted.{answers_always}
use lib.Dec.{ltb}
use Rattle.boundary.proofs.Tests.{sorted_ascends}
use Rattle.boundary.proofs.ascend.Goals as goal

pub returns : goal.returns
returns g c = sorted_ascends _ _ (c.is_sorted_by.ensures.cases ltb (answers_always _ _ _ (λ f a r f' k. search rules)))
