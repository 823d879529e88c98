-- `residence::covered::cover_row`: the slots read so far are marked. Assumes nothing.
use native.Mathlib.Omega.{arith}
use Rattle.residence.proofs.covered.Rows.{row-vertex, row_start, row_slot_read, row_slot_there, row_turn, row_end}
use Rattle.residence.proofs.covered.cover_row.Goals as goal

pub returns-then-dim-eq0 : goal.returns-then-dim-eq0
returns-then-dim-eq0 c = row-vertex c.requires c.byte_at-dim.ensures.0 c.if-dim-eq0.true

pub loop-i-init : goal.loop-i-init
loop-i-init c = row_start c.requires c.byte_at-dim.ensures.0

pub word_at-slot-requires : goal.word_at-slot-requires
word_at-slot-requires c =
    row_slot_read c.requires c.byte_at-dim.ensures.0 c.loop-i.i (omega arith)

pub overflow_add-covered : goal.overflow_add-covered
overflow_add-covered c =
    let l = row_slot_there c.requires c.byte_at-dim.ensures.0 c.if-dim-eq0.false c.loop-i.i _ (omega arith) c.word_at-slot.ensures in
    omega (arith, l, c.loop-i.invariant.same)

pub bounds-covered-first : goal.bounds-covered-first
bounds-covered-first c =
    let l = row_slot_there c.requires c.byte_at-dim.ensures.0 c.if-dim-eq0.false c.loop-i.i _ (omega arith) c.word_at-slot.ensures in
    omega (arith, l, c.loop-i.invariant.same)

pub loop-i-preserved : goal.loop-i-preserved
loop-i-preserved c =
    row_turn c.requires c.byte_at-dim.ensures.0 c.if-dim-eq0.false _ _ _ (omega arith) c.word_at-slot.ensures c.loop-i.invariant

pub returns : goal.returns
returns c = row_end c.requires c.byte_at-dim.ensures.0 c.if-dim-eq0.false _ _ (omega arith) c.loop-i.invariant
