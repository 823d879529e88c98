-- `homes::join_copies`: what is left to do from here makes the whole (`Walking`). Assumes nothing.
use Rattle.homes.proofs.Walking.{Walking}
use Rattle.homes.proofs.join_copies.Given as goal

abbrev pub invariant-loop-part : goal.invariant-loop-part
invariant-loop-part l = Walking l.tables.image.now l.tables.starts.now l.from l.others l.own l.i l.work l.initial.ent l.ent l.part-iterator l.at l.all
