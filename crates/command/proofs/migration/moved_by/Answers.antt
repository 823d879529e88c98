-- The new image stands in the output buffer. Assumes nothing.
use Rattle.std.proofs.Common.{sym}
use lib.Seq.{length-take-le}
use Rattle.command.proofs.Stands.{moved_room}
use Rattle.command.proofs.migration.moved_by.Goals as goal

pub slice_bounds-out-end : goal.slice_bounds-out-end
slice_bounds-out-end c = moved_room _ _ _ _ _ _ _ _ c.in-Ok.is c.migrate.ensures

pub slice_bounds-replace_argument-end : goal.slice_bounds-replace_argument-end
slice_bounds-replace_argument-end c = sym (length-take-le _ _ (moved_room _ _ _ _ _ _ _ _ c.in-Ok.is c.migrate.ensures))
