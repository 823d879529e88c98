-- `writing::put_text` meets its contract: what is left of the word gives the word. Assumes nothing.
use lib.ListN.{drop}
use Rattle.decimal.proofs.Runs.{Left}
use Rattle.decimal.proofs.writing.put_text.Given as goal

abbrev pub invariant-loop-byte : goal.invariant-loop-byte
invariant-loop-byte l = Left l.initial.out l.at l.text l.out l.to (drop l.byte-index l.text)
