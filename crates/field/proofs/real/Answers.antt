-- `field::real`: finite bits are no NaN's. Assumes nothing.
use Rattle.field.proofs.Finite.{finite_no_nan}
use Rattle.field.proofs.real.Goals as goal

pub float_from_bits-result : goal.float_from_bits-result
float_from_bits-result c = rw (finite_no_nan c.args.bits c.requires) tt
