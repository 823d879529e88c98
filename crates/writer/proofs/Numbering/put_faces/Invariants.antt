-- `writer::Numbering::put_faces`: the slots of the faces that are left give those of all. Assumes nothing.
use Rattle.writer.specs.Sources.{entry_in}
use Rattle.writer.proofs.Faces.{WordsLeft}
use Rattle.writer.proofs.Numbering.put_faces.Given as goal

abbrev pub invariant-loop-k : goal.invariant-loop-k
invariant-loop-k l = WordsLeft (entry_in l.self l.part.0) l.faces l.initial.out l.at l.out l.k
