-- `part_set::PartsLeft::next`: the least part is taken, and the rest is left. Assumes nothing.
use mathlib.Core.Path.{subst}
use Prim.Native.Nat.{ℕ}
use native.Mathlib.Omega.{arith}
use Rattle.part_set.specs.Masks.{Turn}
use Rattle.part_set.proofs.Walk.{turn_is}
use Rattle.part_set.proofs.PartsLeftIterator.next.Goals as goal

pub returns-clause-steps : goal.returns-clause-steps
returns-clause-steps c =
    let m = c.self.inside.left in
    subst (λ (w : ℕ). Turn w c.lowest-part.result c.rest-self-inside.result) c.self.view_is
    (turn_is m _ _ c.lowest-part.ensures.0 c.rest-self-inside.ensures (omega arith) c.self.invariant)
