-- `migrate::deliver`: refused where the output is too short, or written. Assumes nothing.
use native.Mathlib.Omega.{arith}
use Rattle.std.proofs.Math.Logic.{∥∥₁_elim}
use Rattle.std.proofs.Props.{props}
use Rattle.sizing.proofs.Amounts.{bytes_is, bytes_fit, rows_fit}
use Rattle.migrate.proofs.Delivered.{short_output, delivered}
use Rattle.migrate.proofs.deliver.Goals as goal

pub returns-then-fits-out : goal.returns-then-fits-out
returns-then-fits-out c = short_output _ _ _ c.requires c.if-fits-out.true _ c.into.ensures

pub write-requires : goal.write-requires
write-requires c = omega (arith, bytes_is _ _ c.requires, c.if-fits-out.false)

pub overflow_cast-result : goal.overflow_cast-result
overflow_cast-result c = ∥∥₁_elim c.args.plan.now.prepared (Prim.hlevel props) (λ p. omega (arith, bytes_fit p c.requires))

pub overflow_cast-result-2 : goal.overflow_cast-result-2
overflow_cast-result-2 c = ∥∥₁_elim c.args.plan.now.prepared (Prim.hlevel props) (λ p. omega (arith, rows_fit p c.requires))

pub returns : goal.returns
returns c = delivered _ _ _ c.requires c.if-fits-out.false _ c.write.ensures
