-- `migrate::migrate`: sizing, then the output; the working buffer is cleared before and after sizing. Assumes nothing.
use Prim.Native.Nat.{ℕ}
use Rattle.std.proofs.lemmas.Result.{err_from_is_err_and}
use Rattle.std.proofs.Common.{◌≡◌}
use mathlib.Core.Path.{ap, ◌∙◌}
use mathlib.Core.List.{List}
use lib.ListN.{length, get_or, replicate}
use native.Mathlib.Omega.{arith}
use Rattle.residence.proofs.covered.Marks.{zeros_at}
use Rattle.migrate.proofs.Delivered.{migrates, migrates_not}
use Rattle.migrate.proofs.migrate.Goals as goal

pub size-sized-requires-clause-empty : goal.size-sized-requires-clause-empty
size-sized-requires-clause-empty c =
    record {
      blank = λ g. ap (λ (w : List ℕ). get_or w g 0) c.clear.ensures ∙ zeros_at (length c.args.work.now) g;
      ent_room = omega arith;
      counts_room = omega arith;
      none = λ q. zeros_at 64 q;
    }

pub returns-in_err-fits : goal.returns-in_err-fits
returns-in_err-fits c =
    let p = err_from_is_err_and c.from_residual.result c.from_residual.ensures.1 in
    let same : length c.size-sized.new.work ≡ length c.args.work.now = omega arith in
    rw (p.1, p.2) (migrates_not c.args.work.now (omega arith) (c.clear-2.ensures ∙ ap (λ (k : ℕ). replicate k 0) same) _ c.in_err-fits.ensures)

pub returns : goal.returns
returns c =
    let same : length c.size-sized.new.work ≡ length c.args.work.now = omega arith in
    migrates c.args.work.now (omega arith) (c.clear-2.ensures ∙ ap (λ (k : ℕ). replicate k 0) same) c.in_ok-fits.ensures.passes
    (rw (c.plan_of-plan.ensures.image, c.plan_of-plan.ensures.list) at c.deliver.ensures)
