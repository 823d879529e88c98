-- `part_set::place`: own counts below p where it is below. Assumes nothing.
use native.Mathlib.Omega.{arith}
use Rattle.part_set.specs.Masks.{has}
use Rattle.part_set.proofs.Rank.{place_lt, place_low, place_high}
use Rattle.laws.proofs.Tests.{true_T}
use Rattle.part_set.proofs.place.Goals as goal

pub overflow_sub-result : goal.overflow_sub-result
overflow_sub-result c =
    let a = c.args in
    let f = c.requires in
    let own = true_T (has a.mask a.own) f.2 in
    let t = true_T (has a.mask a.p) f.3 in
    omega (arith, c.below-rank.ensures.0, place_high a.mask a.own a.p f.1 t c.if-own-p.true own)

pub returns-then-own-p : goal.returns-then-own-p
returns-then-own-p c =
    let a = c.args in
    let f = c.requires in
    let own = true_T (has a.mask a.own) f.2 in
    let t = true_T (has a.mask a.p) f.3 in
    let high = place_high a.mask a.own a.p f.1 t c.if-own-p.true own in (
      omega (arith, c.below-rank.ensures.0, high),
      omega (arith, c.below-rank.ensures.0, high, place_lt a.mask a.own a.p f.0 f.1 own t f.4),
    )

pub returns : goal.returns
returns c =
    let a = c.args in
    let f = c.requires in
    let own = true_T (has a.mask a.own) f.2 in
    let t = true_T (has a.mask a.p) f.3 in
    let low = place_low a.mask a.own a.p f.1 t (omega (arith, f.4)) in (
      omega (arith, c.below-rank.ensures.0, low),
      omega (arith, c.below-rank.ensures.0, low, place_lt a.mask a.own a.p f.0 f.1 own t f.4),
    )
