-- `query::lookup_in`: what is found from the present part on is what is found in all. Assumes nothing.
use Rattle.rows.specs.Tables.{set_of}
use Rattle.query.proofs.Looking.{Left}
use Rattle.query.proofs.lookup_in.Given as goal

abbrev pub invariant-loop-p : goal.invariant-loop-p
invariant-loop-p l = Left l.name (set_of l.tables) l.p
