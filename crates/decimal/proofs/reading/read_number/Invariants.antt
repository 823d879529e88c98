-- `reading::read_number` meets its contract: what is left to read decides as the whole text does. Assumes nothing.
use Rattle.decimal.proofs.Digits.{Reading}
use Rattle.decimal.proofs.reading.read_number.Given as goal

abbrev pub invariant-loop-digit : goal.invariant-loop-digit
invariant-loop-digit l = Reading l.text l.number l.digit-index
