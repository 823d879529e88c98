-- `entities::gather_part`: what stands before `to` and what is to come are the whole (`Going`). Assumes nothing.
use Rattle.index.specs.Index.{set_in}
use Rattle.entities.proofs.Parts.{Going}
use Rattle.entities.proofs.gather_part.Given as goal

abbrev pub invariant-loop-s : goal.invariant-loop-s
invariant-loop-s l = Going (set_in l.tables.image.now) l.tables.starts.now l.part.0 l.initial.ord l.ord l.k l.s l.to
