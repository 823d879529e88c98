-- `index::walk`: the parts, one a turn. The invariant: what is left to do from here gives what was to be done from the start. Assumes nothing.
use mathlib.Core.Path.{refl, sym, ◌∙◌}
use native.Mathlib.Omega.{arith}
use lib.ListN.{length-set}
use Rattle.index.proofs.HeadLaws.{headed}
use Rattle.index.proofs.PartTurn.{fixed_of, parts_start, parts_step, parts_cut, parts-over, parts_unfilled, parts_done, ended_over}
use Rattle.index.proofs.walk.Goals as goal

pub byte_at-n-requires : goal.byte_at-n-requires
byte_at-n-requires c = omega (arith, (headed _ c.requires.head).long)

pub loop-p-init : goal.loop-p-init
loop-p-init c = parts_start (fixed_of _ _ _ _ _ c.requires c.byte_at-n.ensures.0)

pub returns-then-image-at : goal.returns-then-image-at
returns-then-image-at c = parts_cut _ _ _ _ _ _ c.loop-p.invariant c.loop-p-test.true refl (simp length-set) refl c.if-image-at.true

pub returns-in_err-at : goal.returns-in_err-at
returns-in_err-at c =
    let w = c.walk_rows in
    rw c.from_residual.ensures
    (parts-over _ _ _ _ _ _ c.loop-p.invariant c.loop-p-test.true w.auto.offs (simp length-set) w.auto.keys
    _ c.word_at-count.ensures (ended_over _ _ (sym c.in_err-at.was ∙ w.ensures.answer)))

pub loop-p-preserved : goal.loop-p-preserved
loop-p-preserved c =
    let w = c.walk_rows in
    parts_step _ _ _ _ _ _ c.loop-p.invariant _ _ _ _ _ c.loop-p-test.true c.word_at-count.ensures
    w.ensures c.in_ok-at.was w.auto.offs w.auto.keys

pub returns-then-at-image : goal.returns-then-at-image
returns-then-at-image c = parts_done _ _ _ _ _ _ c.loop-p.invariant (omega (arith, c.loop-p.auto.p-end)) c.if-at-image.true

pub returns : goal.returns
returns c = parts_unfilled _ _ _ _ _ _ c.loop-p.invariant (simp length-set) (omega (arith, c.loop-p.auto.p-end)) c.if-at-image.false
