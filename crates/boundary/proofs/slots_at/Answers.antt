-- `boundary::slots_at`: the words of the body, one a turn. Assumes nothing.
use native.Mathlib.Omega.{arith}
use Rattle.boundary.proofs.Reading.{row_in, row_inside, slots_read}
use Rattle.boundary.proofs.Filling.{filled_more}
use Rattle.boundary.proofs.slots_at.Goals as goal

pub offset_of-at-requires-clause-slot_in_bounds : goal.offset_of-at-requires-clause-slot_in_bounds
offset_of-at-requires-clause-slot_in_bounds g c = row_in c.requires.there

pub word_at-requires : goal.word_at-requires
word_at-requires g c = omega (arith, row_inside c.requires.there, c.offset_of-at.ensures, c.requires.few, c.loop-i-test.true)

pub loop-i-preserved : goal.loop-i-preserved
loop-i-preserved g c = filled_more _ _ _ _ _ c.loop-i-test.true c.loop-i.invariant c.word_at.ensures

pub returns : goal.returns
returns g c = slots_read c.requires.there c.offset_of-at.ensures c.requires.few.0 c.requires.few.1 _ c.loop-i.invariant.0 (λ i h. c.loop-i.invariant.1 i (omega arith))
