-- What the answer of the listing counts stands in the buffer. Assumes nothing.
use Rattle.std.proofs.Common.{sym}
use lib.Seq.{length-take-le}
use Rattle.text.proofs.Ends.{listed_room}
use Rattle.listing.proofs.main.Goals as goal

pub slice_bounds-out-end : goal.slice_bounds-out-end
slice_bounds-out-end c = listed_room _ _ _ _ _ c.in-Some.is c.write_listing.ensures

pub slice_bounds-write_all-end : goal.slice_bounds-write_all-end
slice_bounds-write_all-end c = sym (length-take-le _ _ (listed_room _ _ _ _ _ c.in-Some.is c.write_listing.ensures))
