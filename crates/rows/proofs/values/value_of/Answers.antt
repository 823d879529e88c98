-- `rows::values::value_of` meets its contract: the bits of kind 2 are finite. Assumes nothing.
use native.Mathlib.Omega.{arith}
use Rattle.rows.proofs.values.Laws.{real_finite}
use Rattle.rows.proofs.values.value_of.Goals as goal

pub real-requires : goal.real-requires
real-requires c = real_finite c.args.kind c.args.bits c.requires (λ e. omega arith) (λ e. omega arith)
