-- `boundary::stand`: each slot is judged, and their order. Assumes nothing.
use Rattle.std.proofs.Common.{rules, tests, ◌≡◌, true, false, ◌&&◌}
use Rattle.std.proofs.lemmas.Iterator.{cases_from_all, YieldsList-from_slice}
use Rattle.boundary.specs.Boundary.{face_keyed, faces_keyed}
use Rattle.boundary.proofs.Tests.{every_cases}
use Rattle.boundary.proofs.stand.Goals as goal

pub returns : goal.returns
unfolding faces_keyed
returns g c =
    let a = c.args in
    let is = face_keyed a.tables.now.starts.now a.keys.now a.part.0 a.dim in
    let e = every_cases is a.slots.now c.all.result (cases_from_all _ _ _ (λ x. is x ≡ true) (λ x. is x ≡ false) c.all.ensures.ran (YieldsList-from_slice a.slots.now cc) (λ x q k. search (rules, tests)) (λ x q k. search (rules, tests))) in
    λ i. e i && c.ascend.ensures i
