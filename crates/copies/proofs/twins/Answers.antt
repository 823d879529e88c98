-- `copies::twins` meets its contract: the parts that are left to ask give what all other parts of the residence set give. Assumes nothing.
use native.Mathlib.Omega.{arith}
use mathlib.Core.Path.{◌∙◌, sym}
use borrow.Author.Tests.{not-true, not-false}
use Rattle.copies.proofs.Loops.{walks_in, walks_more, walks_fails, walks_done}
use Rattle.copies.proofs.Placed.{offset_asked, stands, room_48}
use Rattle.copies.proofs.Remote.{own_asked, twin_asked, twins_judged}
use Rattle.copies.proofs.twins.Goals as goal

pub offset_of-at-requires-clause-slot_in_bounds : goal.offset_of-at-requires-clause-slot_in_bounds
offset_of-at-requires-clause-slot_in_bounds c = (offset_asked c.requires.ready _ _ c.requires.slot_in_bounds).1

pub long_at-mask-requires : goal.long_at-mask-requires
long_at-mask-requires c = omega (arith, room_48 c.requires.ready (stands c.requires.ready _ _ _ c.requires.slot_in_bounds c.offset_of-at.ensures))

pub without-others-requires : goal.without-others-requires
without-others-requires c = own_asked c.requires.ready _ _ c.requires.slot_in_bounds c.offset_of-at.ensures c.long_at-mask.ensures

pub twin-requires-clause-twin_asked : goal.twin-requires-clause-twin_asked
twin-requires-clause-twin_asked c =
    twin_asked c.requires.ready _ _ c.requires.slot_in_bounds c.offset_of-at.ensures c.long_at-mask.ensures _ c.without-others.ensures.1 _
    (walks_in _ c.loop-other.invariant c.in-Some.ensures.steps)

pub returns-then-not-twin : goal.returns-then-not-twin
returns-then-not-twin c =
    walks_fails _ c.loop-other.invariant c.in-Some.ensures.steps (sym c.twin.ensures ∙ not-true _ c.if-not-twin.true-raw)
    ∙ twins_judged c.requires.ready _ _ c.requires.slot_in_bounds c.offset_of-at.ensures c.long_at-mask.ensures _ c.without-others.ensures.1

pub loop-other-preserved : goal.loop-other-preserved
loop-other-preserved c = walks_more _ c.loop-other.invariant c.in-Some.ensures.steps (sym c.twin.ensures ∙ not-false _ c.if-not-twin.false-raw)

pub returns : goal.returns
returns c =
    walks_done _ c.loop-other.invariant c.in-None.ensures.steps.0
    ∙ twins_judged c.requires.ready _ _ c.requires.slot_in_bounds c.offset_of-at.ensures c.long_at-mask.ensures _ c.without-others.ensures.1
