-- `writer::Numbering::put_remote`: the slots of the parts that are left give those of all. Assumes nothing.
use lib.ListN.{get_or}
use Rattle.writer.proofs.Slots.{SlotsLeft}
use Rattle.writer.proofs.Numbering.put_remote.Given as goal

abbrev pub invariant-loop-part : goal.invariant-loop-part
invariant-loop-part l =
    SlotsLeft l.self.slots.now (get_or l.self.base.now l.entity 0) (get_or l.self.masks.now l.entity 0) l.fn.own.0 l.initial.out l.at l.out l.part-iterator l.to
