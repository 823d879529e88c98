-- `copies::point` meets its contract: the three numbers that are read are the coordinates. Assumes nothing.
use Rattle.copies.proofs.Compare.{point_read}
use Rattle.copies.proofs.point.Goals as goal

pub returns : goal.returns
returns c = point_read c.args.image.now c.args.at c.long_at.ensures c.long_at-2.ensures c.long_at-3.ensures
