-- `residence::covered::cover_part`: the slots that the rows so far name are marked. Assumes nothing.
use mathlib.Core.List.{[]}
use lib.ListN.{get_or}
use Rattle.index.specs.Index.{set_in}
use Rattle.residence.proofs.covered.Parts.{PartInv}
use Rattle.residence.proofs.covered.cover_part.Given as goal

abbrev pub invariant-loop-s : goal.invariant-loop-s
invariant-loop-s l = PartInv (get_or (set_in l.tables.image.now) l.part.0 []) (get_or l.tables.starts.now l.part.0 0) l.initial.covered l.covered l.s
