-- `Digits::halve` is safe: a rest is 0 or 1. Assumes nothing.
use Rattle.std.proofs.Common.{◌<◌}
use Rattle.real.proofs.digits.Digits.halve.Given as goal

abbrev pub invariant-loop-digit : goal.invariant-loop-digit
invariant-loop-digit l = l.rest < 2
