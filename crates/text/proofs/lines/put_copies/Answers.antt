-- `text::lines::put_copies` meets its contract: the copies in the parts that are left give all copies. Assumes nothing.
use native.Mathlib.Omega.{arith}
use mathlib.Core.Path.{◌≡◌}
use Rattle.std.proofs.Common.{rules}
use Rattle.part_set.specs.Masks.{parts_in, others}
use Rattle.text.proofs.lines.Copies.{head_room, without_asked, copies_start, copies-room, copies-done, word_there, copy_room, copies-more}
use Rattle.text.proofs.lines.put_copies.Goals as goal

pub long_at-mask-requires : goal.long_at-mask-requires
long_at-mask-requires c = omega (arith, head_room _ c.requires.row_there)

pub without-requires : goal.without-requires
without-requires c = without_asked _ c.requires.row_there c.long_at-mask.ensures

pub loop-other-init : goal.loop-other-init
loop-other-init c =
    let held : parts_in c.into_iter-other-iterator.result ≡ others c.long_at-mask.result c.args.own.0 = search rules in
    copies_start _ c.requires.row_there _ c.long_at-mask.ensures held

pub word_at-requires : goal.word_at-requires
word_at-requires c = word_there _ c.loop-other.invariant c.in-Some.ensures.steps.rest

pub put_copy-to-requires : goal.put_copy-to-requires
put_copy-to-requires c =
    let turn = c.in-Some.ensures.steps in
    let held : parts_in c.into_iter-other-iterator.result ≡ others c.long_at-mask.result c.args.own.0 = search rules in
    copy_room _ c.loop-other.invariant turn.rest turn.least c.word_at.ensures
    (copies-room _ c.requires.row_there _ c.long_at-mask.ensures held c.requires.room)

pub loop-other-preserved : goal.loop-other-preserved
loop-other-preserved c =
    let turn = c.in-Some.ensures.steps in
    copies-more _ c.loop-other.invariant turn.rest turn.least c.word_at.ensures c.put_copy-to.ensures

pub returns : goal.returns
returns c =
    let held : parts_in c.into_iter-other-iterator.result ≡ others c.long_at-mask.result c.args.own.0 = search rules in
    copies-done _ c.requires.row_there _ c.long_at-mask.ensures held c.loop-other.invariant c.in-None.ensures.steps.0
