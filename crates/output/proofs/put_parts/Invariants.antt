-- `output::put_parts`: what stands behind the head grows by a part. Assumes nothing.
use Rattle.output.specs.Sources.{part_in}
use Rattle.output.proofs.Growing.{Growing}
use Rattle.output.proofs.put_parts.Given as goal

abbrev pub invariant-loop-q : goal.invariant-loop-q
invariant-loop-q l = Growing (part_in l.rows l.members l.begins) l.parts l.initial.out l.out l.q l.at
