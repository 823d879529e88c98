-- `part_set::below`: the remainder by a power keeps the bits below. Assumes nothing.
use mathlib.Core.Path.{ap, ◌∙◌}
use Prim.Native.Nat.{ℕ, ◌%◌}
use native.Mathlib.Omega.{arith}
use lib.Count.{ones}
use Rattle.part_set.proofs.Rank.{rank_ones, rank_le}
use Rattle.part_set.proofs.below.Goals as goal

pub returns : goal.returns
returns c =
    let m = c.args.mask in
    let p = c.args.p in
    let e = ap (λ (x : ℕ). ones (m % x)) c.single.ensures ∙ rank_ones m p in
    (e, omega (arith, e, rank_le m p))
