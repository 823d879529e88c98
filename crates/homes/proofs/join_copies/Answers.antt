-- `homes::join_copies`: what is left to do from here makes the whole (`Walking`). Assumes nothing.
use native.Mathlib.Omega.{arith}
use mathlib.Core.Path.{refl}
use Rattle.homes.proofs.Walking.{walking_none, walking-turn, walking_more, walking_done}
use Rattle.homes.proofs.join_copies.Goals as goal

pub loop-part-init : goal.loop-part-init
loop-part-init c = rw (c.into_iter-part-iterator.ensures.into_iter_gives, c.parts-part-items.ensures) (walking_none c.requires)

pub word_at-requires : goal.word_at-requires
word_at-requires c = (walking-turn c.loop-part.invariant c.in-Some.ensures.steps _ refl).slot

pub bounds-work-row : goal.bounds-work-row
bounds-work-row c = (walking-turn c.loop-part.invariant c.in-Some.ensures.steps _ (rw c.word_at.ensures at c.row_of-row.ensures)).word

pub bounds-ent-row : goal.bounds-ent-row
bounds-ent-row c = (walking-turn c.loop-part.invariant c.in-Some.ensures.steps _ (rw c.word_at.ensures at c.row_of-row.ensures)).entry

pub offset_bounds-work-row : goal.offset_bounds-work-row
offset_bounds-work-row c = omega (arith, walking-turn c.loop-part.invariant c.in-Some.ensures.steps _ (rw c.word_at.ensures at c.row_of-row.ensures))

pub offset_bounds-ent-row : goal.offset_bounds-ent-row
offset_bounds-ent-row c = omega (arith, walking-turn c.loop-part.invariant c.in-Some.ensures.steps _ (rw c.word_at.ensures at c.row_of-row.ensures))

pub overflow_add-at : goal.overflow_add-at
overflow_add-at c = omega (arith, walking-turn c.loop-part.invariant c.in-Some.ensures.steps _ refl, c.args.tables.now.indexed.small)

pub loop-part-preserved : goal.loop-part-preserved
loop-part-preserved c =
    walking_more c.loop-part.invariant c.in-Some.ensures.steps _ _ (rw c.word_at.ensures at c.row_of-row.ensures) c.union-all.ensures

pub returns : goal.returns
returns c = walking_done c.loop-part.invariant c.in-None.ensures.steps.0
