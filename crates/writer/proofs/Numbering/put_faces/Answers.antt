-- `writer::Numbering::put_faces`: the slots of the faces that are left give those of all. Assumes nothing.
use Rattle.writer.specs.Sources.{entry_in}
use Rattle.writer.proofs.Faces.{words_none, words_more, words_done}
use Rattle.writer.proofs.Numbering.put_faces.Goals as goal

pub loop-k-init : goal.loop-k-init
loop-k-init c = words_none (entry_in c.args.self.now c.args.part.0) c.args.faces.now c.requires.room

pub loop-k-preserved : goal.loop-k-preserved
loop-k-preserved c =
    words_more (entry_in c.args.self.now c.args.part.0) c.args.faces.now c.loop-k.invariant c.loop-k-test.true c.slot_of-slot.ensures c.put_word.ensures

pub returns : goal.returns
returns c = words_done (entry_in c.args.self.now c.args.part.0) c.args.faces.now c.loop-k.invariant c.loop-k-test.false
