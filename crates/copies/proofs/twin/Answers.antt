-- `copies::twin` meets its contract: the remote slot is there, its row is a copy, and names this slot back. Assumes nothing.
use borrow.Author.Tests.{not-true, not-false}
use Rattle.copies.proofs.Placed.{offset_asked}
use Rattle.copies.proofs.Remote.{remote_asked, rows_asked, twin_there, twin-far, twin-differs, back-asked, twin-back}
use Rattle.copies.proofs.twin.Goals as goal

pub offset_of-at-requires-clause-slot_in_bounds : goal.offset_of-at-requires-clause-slot_in_bounds
offset_of-at-requires-clause-slot_in_bounds c = (offset_asked c.requires.ready _ _ c.requires.twin_asked.there).1

pub remote_slot-t-requires : goal.remote_slot-t-requires
remote_slot-t-requires c =
    remote_asked c.requires.ready c.requires.twin_asked c.offset_of-at.ensures

pub rows_in-requires-clause-part_in_bounds : goal.rows_in-requires-clause-part_in_bounds
rows_in-requires-clause-part_in_bounds c = (rows_asked c.requires.ready c.requires.twin_asked c.offset_of-at.ensures).0

pub rows_in-requires-clause-part_bound : goal.rows_in-requires-clause-part_bound
rows_in-requires-clause-part_bound c = (rows_asked c.requires.ready c.requires.twin_asked c.offset_of-at.ensures).1

pub returns-then-rows_in-t : goal.returns-then-rows_in-t
returns-then-rows_in-t c =
    twin-far c.requires.ready c.requires.twin_asked c.offset_of-at.ensures c.remote_slot-t.ensures c.rows_in.ensures c.if-rows_in-t.true

pub same_copy-requires-clause-to_in_bounds : goal.same_copy-requires-clause-to_in_bounds
same_copy-requires-clause-to_in_bounds c =
    twin_there c.requires.ready c.requires.twin_asked c.offset_of-at.ensures c.remote_slot-t.ensures c.rows_in.ensures c.if-rows_in-t.false

pub returns-then-not-same_copy : goal.returns-then-not-same_copy
returns-then-not-same_copy c =
    twin-differs c.requires.ready c.requires.twin_asked c.offset_of-at.ensures c.remote_slot-t.ensures c.rows_in.ensures
    c.if-rows_in-t.false c.same_copy.ensures (not-true _ c.if-not-same_copy.true-raw)

pub offset_of-to-requires-clause-slot_in_bounds : goal.offset_of-to-requires-clause-slot_in_bounds
offset_of-to-requires-clause-slot_in_bounds c =
    (offset_asked c.requires.ready _ _ (twin_there c.requires.ready c.requires.twin_asked c.offset_of-at.ensures c.remote_slot-t.ensures c.rows_in.ensures c.if-rows_in-t.false)).1

pub remote_slot-requires : goal.remote_slot-requires
remote_slot-requires c =
    back-asked c.requires.ready c.requires.twin_asked c.offset_of-at.ensures c.remote_slot-t.ensures c.rows_in.ensures
    c.if-rows_in-t.false c.same_copy.ensures (not-false _ c.if-not-same_copy.false-raw) c.offset_of-to.ensures

pub returns : goal.returns
returns c =
    twin-back c.requires.ready c.requires.twin_asked c.offset_of-at.ensures c.remote_slot-t.ensures c.rows_in.ensures
    c.if-rows_in-t.false c.same_copy.ensures (not-false _ c.if-not-same_copy.false-raw) c.offset_of-to.ensures c.remote_slot.ensures
