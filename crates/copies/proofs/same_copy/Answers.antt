-- `copies::same_copy` meets its contract: the name first, so that the boundaries have one dimension; then the fields and the shape. Assumes nothing.
use native.Mathlib.Omega.{arith}
use borrow.Author.Tests.{not-true, not-false}
use Rattle.copies.proofs.Placed.{offset_asked, stands, room_48, value_stands}
use Rattle.copies.proofs.Shapes.{shape_there, other_name, other_fields, dim_here, dim_there, copy_shapes}
use Rattle.copies.proofs.same_copy.Goals as goal

pub offset_of-from-requires-clause-slot_in_bounds : goal.offset_of-from-requires-clause-slot_in_bounds
offset_of-from-requires-clause-slot_in_bounds c =
    (offset_asked c.requires.ready _ _ c.requires.slot_in_bounds).1

pub offset_of-at-requires-clause-slot_in_bounds : goal.offset_of-at-requires-clause-slot_in_bounds
offset_of-at-requires-clause-slot_in_bounds c =
    (offset_asked c.requires.ready _ _ c.requires.to_in_bounds).1

pub same_name-requires : goal.same_name-requires
same_name-requires c =
    let r = c.requires.ready in
    let here = stands r _ _ _ c.requires.slot_in_bounds c.offset_of-from.ensures in
    let there = stands r _ _ _ c.requires.to_in_bounds c.offset_of-at.ensures in
    (room_48 r here, room_48 r there)

pub returns-then-not-same_name : goal.returns-then-not-same_name
returns-then-not-same_name c =
    let r = c.requires.ready in
    let here = stands r _ _ _ c.requires.slot_in_bounds c.offset_of-from.ensures in
    let there = stands r _ _ _ c.requires.to_in_bounds c.offset_of-at.ensures in
    other_name r here there _ c.same_name.ensures (not-true _ c.if-not-same_name.true-raw)

pub same_fields-requires-clause-at_in_bounds : goal.same_fields-requires-clause-at_in_bounds
same_fields-requires-clause-at_in_bounds c =
    let r = c.requires.ready in
    let here = stands r _ _ _ c.requires.slot_in_bounds c.offset_of-from.ensures in
    let there = stands r _ _ _ c.requires.to_in_bounds c.offset_of-at.ensures in
    (room_48 r here, room_48 r there)

pub same_fields-requires-clause-at_stands : goal.same_fields-requires-clause-at_stands
same_fields-requires-clause-at_stands c =
    value_stands c.requires.ready (stands c.requires.ready _ _ _ c.requires.slot_in_bounds c.offset_of-from.ensures)

pub same_fields-requires-clause-to_stands : goal.same_fields-requires-clause-to_stands
same_fields-requires-clause-to_stands c =
    value_stands c.requires.ready (stands c.requires.ready _ _ _ c.requires.to_in_bounds c.offset_of-at.ensures)

pub returns-then-not-same_fields : goal.returns-then-not-same_fields
returns-then-not-same_fields c =
    let r = c.requires.ready in
    let here = stands r _ _ _ c.requires.slot_in_bounds c.offset_of-from.ensures in
    let there = stands r _ _ _ c.requires.to_in_bounds c.offset_of-at.ensures in
    other_fields r here there _ _ c.same_name.ensures c.same_fields.ensures (not-false _ c.if-not-same_name.false-raw) (not-true _ c.if-not-same_fields.true-raw)

pub byte_at-dim-requires : goal.byte_at-dim-requires
byte_at-dim-requires c =
    omega (arith, room_48 c.requires.ready (stands c.requires.ready _ _ _ c.requires.slot_in_bounds c.offset_of-from.ensures))

pub same_shape-requires-clause-here_shape : goal.same_shape-requires-clause-here_shape
same_shape-requires-clause-here_shape c =
    let r = c.requires.ready in
    let here = stands r _ _ _ c.requires.slot_in_bounds c.offset_of-from.ensures in
    let there = stands r _ _ _ c.requires.to_in_bounds c.offset_of-at.ensures in
    shape_there r here _ _ (omega (arith, c.row_of-here.ensures)) (dim_here r here there _ c.same_name.ensures (not-false _ c.if-not-same_name.false-raw) c.byte_at-dim.ensures.0)

pub same_shape-requires-clause-there_shape : goal.same_shape-requires-clause-there_shape
same_shape-requires-clause-there_shape c =
    let r = c.requires.ready in
    let here = stands r _ _ _ c.requires.slot_in_bounds c.offset_of-from.ensures in
    let there = stands r _ _ _ c.requires.to_in_bounds c.offset_of-at.ensures in
    shape_there r there _ _ (omega (arith, c.row_of-there.ensures)) (dim_there r here there _ c.same_name.ensures (not-false _ c.if-not-same_name.false-raw) c.byte_at-dim.ensures.0)

pub returns : goal.returns
returns c =
    let r = c.requires.ready in
    let here = stands r _ _ _ c.requires.slot_in_bounds c.offset_of-from.ensures in
    let there = stands r _ _ _ c.requires.to_in_bounds c.offset_of-at.ensures in
    copy_shapes r here there _ c.same_name.ensures (not-false _ c.if-not-same_name.false-raw) c.byte_at-dim.ensures.0 _ _ c.same_fields.ensures (not-false _ c.if-not-same_fields.false-raw)
    (omega (arith, c.row_of-here.ensures)) (omega (arith, c.row_of-there.ensures)) c.same_shape.ensures
