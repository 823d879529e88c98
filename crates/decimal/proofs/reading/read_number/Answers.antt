-- `reading::read_number` meets its contract: what is left to read decides as the whole text does. Assumes nothing.
use native.Mathlib.Omega.{arith}
use Rattle.std.proofs.Common.{rules}
use Rattle.decimal.proofs.Digits.{number_empty, reading_none, reading_more, stops_other, stops_large, reading_all}
use Rattle.decimal.proofs.reading.read_number.Goals as goal

pub returns-then-is_empty : goal.returns-then-is_empty
returns-then-is_empty c = number_empty _ (search rules)

pub loop-digit-init : goal.loop-digit-init
loop-digit-init c = reading_none _ (search rules)

pub returns-then-not-is_ascii_digit : goal.returns-then-not-is_ascii_digit
returns-then-not-is_ascii_digit c = stops_other _ _ _ c.loop-digit.invariant c.loop-digit-test.true c.if-not-is_ascii_digit.ensures.cases

pub returns-then-number-from : goal.returns-then-number-from
returns-then-number-from c = stops_large _ _ _ c.loop-digit.invariant c.loop-digit-test.true (omega (arith, c.if-number-from.true, c.from.ensures, c.from-in-loop-digit.ensures))

pub loop-digit-preserved : goal.loop-digit-preserved
loop-digit-preserved c = rw c.from.ensures (reading_more _ _ _ c.loop-digit.invariant c.loop-digit-test.true c.if-not-is_ascii_digit.ensures.cases.0 c.if-not-is_ascii_digit.ensures.cases.1 (omega (arith, c.if-number-from.false, c.from.ensures, c.from-in-loop-digit.ensures)))

pub returns : goal.returns
returns c = reading_all _ _ _ c.loop-digit.invariant c.loop-digit-test.false
