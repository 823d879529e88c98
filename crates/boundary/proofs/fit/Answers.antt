-- `boundary::fit`: the corners ascend, and for each of them the others are a face. Assumes nothing.
use native.Mathlib.Nat.{eq-or-lt_of_le}
use native.Mathlib.Omega.{arith}
use mathlib.Core.Path.{◌≡◌}
use mathlib.Core.Logic.{⊎_elim}
use Prim.Native.Nat.{◌<◌}
use Rattle.std.proofs.Common.{rules}
use Rattle.boundary.proofs.Tests.{present, absent}
use Rattle.boundary.proofs.Simplex.{all_there, not_ascending, not_there}
use Rattle.boundary.proofs.fit.Goals as goal

pub returns-then-not-ascend : goal.returns-then-not-ascend
returns-then-not-ascend g c =
    not_ascending _ _ _ c.requires.simplex c.requires.placed c.told-faces c.corners-vertices.result (search rules) c.corners-vertices.ensures (search rules)

pub returns-then-not-contains : goal.returns-then-not-contains
returns-then-not-contains g c =
    not_there _ _ _ c.requires.simplex c.requires.placed c.told-faces c.corners-vertices.result (search rules) c.corners-vertices.ensures
    c.loop-place.place (omega (arith, c.loop-place-test.true)) (absent _ _ _ c.contains.ensures.value c.without.ensures (search rules))

pub loop-place-preserved : goal.loop-place-preserved
loop-place-preserved g c k h =
    ⊎_elim (λ (e : k ≡ c.loop-place.place). rw e (present _ _ _ c.contains.ensures.value c.without.ensures (search rules)))
    (λ (l : k < c.loop-place.place). c.loop-place.invariant k l) (eq-or-lt_of_le (omega (arith, h)))

pub returns : goal.returns
returns g c =
    all_there _ _ _ c.requires.simplex c.requires.placed c.told-faces c.corners-vertices.result (search rules) (search rules)
    (λ k h. c.loop-place.invariant k (omega (arith, h, c.loop-place-test.false)))
