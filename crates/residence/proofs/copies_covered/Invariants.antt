-- `residence::copies_covered`: the copies that are left give what all give. Assumes nothing.
use Rattle.residence.proofs.Laws.{CopiesInv}
use Rattle.residence.proofs.copies_covered.Given as goal

abbrev pub invariant-loop-part : goal.invariant-loop-part
invariant-loop-part l = CopiesInv l.tables.image.now l.tables.starts.now l.covered l.at l.mask l.to l.part-iterator
