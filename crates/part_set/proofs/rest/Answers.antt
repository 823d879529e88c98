-- `part_set::rest`: the least part is taken off as a number. Assumes nothing.
use mathlib.Core.Path.{sym, ap, ◌∙◌, subst}
use Prim.Native.Nat.{ℕ, ◌-◌, ◌^◌}
use native.Mathlib.Omega.{arith}
use Rattle.part_set.specs.Masks.{Rest}
use Rattle.part_set.proofs.Walk.{lowest_le, rest_is}
use Rattle.part_set.proofs.rest.Goals as goal

pub overflow_sub-result : goal.overflow_sub-result
overflow_sub-result c =
    let m = c.args.mask in
    let e = c.single.ensures ∙ ap (λ (p : ℕ). 2 ^ p) c.lowest.ensures.0 in
    omega (arith, e, lowest_le m c.requires c.ranges.mask.fits)

pub returns : goal.returns
returns c =
    let m = c.args.mask in
    let e = c.single.ensures ∙ ap (λ (p : ℕ). 2 ^ p) c.lowest.ensures.0 in
    subst (λ (x : ℕ). Rest m (m - x)) (sym e) (rest_is m c.requires c.ranges.mask.fits)
