-- The cycle {mark}: the closures of the entries so far are marked; the dimension falls at each call. Assumes nothing.
use mathlib.Core.Path.{refl, sym, ◌∙◌}
use native.Mathlib.Omega.{arith}
use lib.ListN.{length}
use Rattle.marks.proofs.Rows.{low, face_markable}
use Rattle.marks.proofs.Closing.{own_room, own_small, close_known, close_vertex, close_start, entry_there, close_turn, close_end}
use Rattle.marks.proofs.+mark.Goals as goal

pub offset_bounds-work-row : goal.offset_bounds-work-row
offset_bounds-work-row t c = omega (arith, own_small c.requires)

pub bounds-work-row : goal.bounds-work-row
bounds-work-row t c = omega (arith, own_room c.requires {l = length c.args.work.now} refl)

pub returns-then-has : goal.returns-then-has
returns-then-has t c = close_known c.requires _ c.row_of-row.ensures (sym c.has.ensures ∙ c.if-has.true)

pub put-requires : goal.put-requires
put-requires t c = (rw c.row_of-row.ensures (own_room c.requires refl), c.requires.part)

pub returns-then-dim-eq0 : goal.returns-then-dim-eq0
returns-then-dim-eq0 t c = close_vertex c.requires _ _ c.row_of-row.ensures c.put.ensures c.if-dim-eq0.true

pub overflow_add-i-end : goal.overflow_add-i-end
overflow_add-i-end t c = omega (arith, low c.requires.known, c.requires.dim)

pub loop-i-init : goal.loop-i-init
loop-i-init t c = close_start c.requires

pub face-below-requires-clause-i_in_bounds : goal.face-below-requires-clause-i_in_bounds
face-below-requires-clause-i_in_bounds t c = entry_there c.requires c.if-dim-eq0.false _ (omega arith)

pub mark-requires : goal.mark-requires
mark-requires t c = (
  omega arith,
  face_markable c.requires c.if-dim-eq0.false _ _ _ (omega arith) c.face-below.ensures c.loop-i.invariant.marks.same c.loop-i.invariant.closed,
)

pub loop-i-preserved : goal.loop-i-preserved
loop-i-preserved t c = close_turn c.requires c.if-dim-eq0.false _ _ _ _ (omega arith) c.loop-i.invariant c.face-below.ensures c.mark.ensures

pub put-requires-2 : goal.put-requires-2
put-requires-2 t c = (rw c.row_of-row.ensures (own_room c.requires c.loop-i.invariant.marks.same), c.requires.part)

pub returns : goal.returns
returns t c = close_end c.requires c.if-dim-eq0.false _ _ _ _ (omega arith) c.row_of-row.ensures c.put-2.ensures c.loop-i.invariant
