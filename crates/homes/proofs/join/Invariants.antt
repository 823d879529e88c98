-- `homes::join`: the entities so far have their sets, and their rows their numbers (`Homed`). Assumes nothing.
use Rattle.homes.proofs.EachEntity.{Homed}
use Rattle.homes.proofs.join.Given as goal

abbrev pub invariant-loop-i : goal.invariant-loop-i
invariant-loop-i l = Homed l.source.tables.image.now l.list l.source.tables.starts.now l.initial.masks l.initial.ent l.masks l.ent l.i
