-- `sizing::size`: refused as the check refuses, or what the list comes to. Assumes nothing.
use native.Mathlib.Omega.{arith}
use Rattle.std.proofs.lemmas.Result.{err_from_is_err_and}
use Rattle.field.proofs.Reading.{bytes_all}
use Rattle.residence.proofs.covered.Marks.{zeros_at}
use Rattle.sizing.proofs.Sources.{surveyed}
use Rattle.sizing.proofs.Answers.{image_refused}
use Rattle.sizing.proofs.size.Goals as goal

pub examine-requires : goal.examine-requires
examine-requires c =
    let rooms = c.requires.sizing_rooms in
    record { index = rooms.index; covered_room = omega arith; blank = λ g. zeros_at 21846 g; ord_room = rooms.ord_room }

pub invariant_of-source : goal.invariant_of-source
invariant_of-source c =
    let all = surveyed c.in_ok-examined.ensures (bytes_all c.args.image.now (λ i. omega (arith, c.type_inv.image i))) (omega (arith, c.requires.sizing_rooms.ord_room)) in
    record { sound = all.source.sound; ordered = ∣ all.source.ordered ∣₁ }

pub size_sound-requires-clause-surveyed : goal.size_sound-requires-clause-surveyed
size_sound-requires-clause-surveyed c =
    surveyed c.in_ok-examined.ensures (bytes_all c.args.image.now (λ i. omega (arith, c.type_inv.image i))) (omega (arith, c.requires.sizing_rooms.ord_room))

pub returns-in_err-examined : goal.returns-in_err-examined
returns-in_err-examined c =
    let p = err_from_is_err_and c.from_residual.result c.from_residual.ensures.1 in
    rw (p.1, p.2) (image_refused _ _ _ _ c.in_err-examined.ensures)
