-- `sound::first_fault`: what is left of the parts and rows gives the answer, in both loops. Assumes nothing.
use Rattle.rows.specs.Tables.{set_of}
use Rattle.sound.proofs.Loops.{AtPart, AtSlot}
use Rattle.sound.proofs.first_fault.Given as goal

abbrev pub invariant-loop-s : goal.invariant-loop-s
invariant-loop-s g l = AtSlot (goal.F-post g l.passes) (set_of l.tables) l.p l.s l.fault

abbrev pub invariant-parts : goal.invariant-parts
invariant-parts g l = AtPart (goal.F-post g l.passes) (set_of l.tables) l.p l.fault
