-- `Digits::add` is safe: a carry is small. Assumes nothing.
use Rattle.std.proofs.Common.{◌<◌}
use Rattle.real.proofs.digits.Digits.add.Given as goal

abbrev pub invariant-loop-i : goal.invariant-loop-i
invariant-loop-i l = l.carry < 60
