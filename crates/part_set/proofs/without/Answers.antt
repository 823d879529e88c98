-- `part_set::without`: a part that is there is taken off as a number. Assumes nothing.
use mathlib.Core.Path.{ap, ◌∙◌}
use Prim.Native.Nat.{ℕ, ◌-◌}
use Rattle.part_set.specs.Masks.{has, parts_in}
use Rattle.part_set.proofs.OnePart.{parts_without}
use Rattle.laws.proofs.Tests.{true_T}
use Rattle.part_set.proofs.without.Goals as goal

pub returns : goal.returns
returns c =
    let m = c.args.mask in
    let p = c.args.p in (
      ap (λ (x : ℕ). m - x) c.single.ensures,
      ap (λ (x : ℕ). parts_in (m - x)) c.single.ensures ∙ parts_without m p (true_T (has m p) c.requires.1),
    )
