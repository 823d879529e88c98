-- `index::head`: the refusals 1 to 5 in their order. Assumes nothing.
use native.Mathlib.Omega.{arith}
use Rattle.std.proofs.Common.{rules}
use Rattle.index.proofs.HeadLaws.{refuse_1, refuse_2, refuse-3, refuse-4, refuse-5, head-passes}
use Rattle.index.proofs.head.Goals as goal

pub returns-then-image-gt-IMAGE_BYTES : goal.returns-then-image-gt-IMAGE_BYTES
returns-then-image-gt-IMAGE_BYTES c = refuse_1 _ c.if-image-gt-IMAGE_BYTES.true

pub returns-then-image-lt8 : goal.returns-then-image-lt8
returns-then-image-lt8 c = refuse_2 _ (omega arith) c.if-image-lt8.true

pub returns-then-not-has_mark : goal.returns-then-not-has_mark
returns-then-not-has_mark c = refuse-3 _ (omega arith) (omega arith) (search rules)

pub returns-then-half_at-ne1 : goal.returns-then-half_at-ne1
returns-then-half_at-ne1 c =
    refuse-4 _ (omega arith) (omega arith) (search rules) (search rules)

pub returns-then-not-has_count : goal.returns-then-not-has_count
returns-then-not-has_count c =
    refuse-5 _ (omega arith) (omega arith) (search rules) (search rules) (search rules)

pub returns : goal.returns
returns c =
    head-passes _ (omega arith) (omega arith) (search rules) (search rules) (search rules)
