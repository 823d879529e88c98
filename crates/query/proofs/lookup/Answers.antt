-- `query::lookup`: refused as the check refuses. Assumes nothing.
use Rattle.std.proofs.lemmas.Result.{err_from_is_err_and}
use Rattle.query.proofs.Accepted.{lookup_refused}
use Rattle.query.proofs.lookup.Goals as goal

pub returns-in_err-sound : goal.returns-in_err-sound
returns-in_err-sound c =
    let refusal = err_from_is_err_and c.from_residual.result c.from_residual.ensures.1 in
    rw (refusal.1, refusal.2) (record { answer = lookup_refused _ _ _ c.in_err-sound.ensures _ _ })
