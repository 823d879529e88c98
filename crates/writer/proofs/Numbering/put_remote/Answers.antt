-- `writer::Numbering::put_remote`: the slots of the parts that are left give those of all. Assumes nothing.
use Prim.Native.Nat.{ℕ, ◌+◌}
use native.Mathlib.Omega.{arith}
use mathlib.Core.Path.{ap}
use lib.ListN.{get_or}
use borrow.Author.Rules.{rules}
use Rattle.writer.proofs.Slots.{slots_none, slots_there, slots_room, slots_more, slots_done}
use Rattle.writer.proofs.Numbering.put_remote.Goals as goal

pub loop-part-init : goal.loop-part-init
loop-part-init c = slots_none c.requires.room (search rules)

pub bounds-self-first : goal.bounds-self-first
bounds-self-first c =
    omega (arith, slots_there c.loop-part.invariant c.in-Some.ensures.steps c.requires.room, c.below-rank.ensures.0)

pub put_word-requires : goal.put_word-requires
put_word-requires c = slots_room c.loop-part.invariant c.in-Some.ensures.steps

pub loop-part-preserved : goal.loop-part-preserved
loop-part-preserved c =
    let first = get_or c.args.self.now.base.now c.args.entity 0 in
    slots_more c.loop-part.invariant c.in-Some.ensures.steps (ap (λ (k : ℕ). get_or c.args.self.now.slots.now (first + k) 0) c.below-rank.ensures.0) c.put_word.ensures

pub returns : goal.returns
returns c = slots_done c.loop-part.invariant c.in-None.ensures.steps.0
