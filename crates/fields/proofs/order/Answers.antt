-- `fields::order`: the first row passes, any other by the name before it. Assumes nothing.
use borrow.Author.Tests.{eq-eqb, ne_eqb}
use Rattle.fields.specs.Order.{key_ascends}
use Rattle.fields.proofs.order.Goals as goal

pub returns-then-slot-eq0 : goal.returns-then-slot-eq0
unfolding key_ascends
returns-then-slot-eq0 c = simp (eq-eqb _ _ c.if-slot-eq0.true)

pub returns : goal.returns
unfolding key_ascends
returns c = simp (ne_eqb _ _ c.if-slot-eq0.false) (cc)
