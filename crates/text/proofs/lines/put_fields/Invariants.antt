-- `text::lines::put_fields` meets its contract: the numbers that are left give the text of all. Assumes nothing.
use mathlib.Core.List.{map}
use lib.ListN.{drop}
use Rattle.decimal.specs.Decimal.{decimal}
use Rattle.decimal.proofs.Runs.{Left}
use Rattle.text.specs.Lines.{spaced}
use Rattle.text.proofs.lines.put_fields.Given as goal

abbrev pub invariant-loop-number : goal.invariant-loop-number
invariant-loop-number l = Left l.initial.out l.at (spaced (map decimal l.numbers)) l.out l.to (spaced (map decimal (drop l.number-index l.numbers)))
