-- `part_set::fits`: nothing is left past n bits. Assumes nothing.
use Rattle.part_set.proofs.OnePart.{shr_none}
use Rattle.part_set.proofs.fits.Goals as goal

pub returns : goal.returns
returns c = shr_none c.args.mask c.args.n
