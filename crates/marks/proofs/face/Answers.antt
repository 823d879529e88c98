-- `marks::face`: the word of the body. Assumes nothing.
use native.Mathlib.Omega.{arith}
use Rattle.marks.proofs.Rows.{known_asked, known_read, slot-near, slot_read}
use Rattle.marks.proofs.face.Goals as goal

pub offset_of-at-requires-clause-slot_in_bounds : goal.offset_of-at-requires-clause-slot_in_bounds
offset_of-at-requires-clause-slot_in_bounds c = (known_asked c.requires.row_known).1

pub overflow_mul-i : goal.overflow_mul-i
overflow_mul-i c = let k = c.requires in omega (arith, slot-near k.row_known c.offset_of-at.ensures k.i_in_bounds)

pub overflow_add-at-2 : goal.overflow_add-at-2
overflow_add-at-2 c =
    let k = c.requires in
    omega (arith, known_read k.row_known c.offset_of-at.ensures, slot-near k.row_known c.offset_of-at.ensures k.i_in_bounds)

pub word_at-requires : goal.word_at-requires
word_at-requires c =
    let k = c.requires in
    omega (arith, known_read k.row_known c.offset_of-at.ensures, slot-near k.row_known c.offset_of-at.ensures k.i_in_bounds)

pub returns : goal.returns
returns c =
    let k = c.requires in
    slot_read k.row_known c.offset_of-at.ensures k.i_in_bounds c.word_at.ensures
