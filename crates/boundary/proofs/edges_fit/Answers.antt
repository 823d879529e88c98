-- `boundary::edges_fit`: each edge is there. Assumes nothing.
use native.Mathlib.Omega.{arith}
use Rattle.laws.proofs.Members.{get_or_in}
use Rattle.boundary.proofs.edges_fit.Goals as goal

pub slots_at-requires : goal.slots_at-requires
slots_at-requires c = (omega arith, ((omega arith, omega arith), c.requires _ (get_or_in c.args.slots.now 0 0 (omega (arith, c.told-slots)))))

pub slots_at-requires-2 : goal.slots_at-requires-2
slots_at-requires-2 c = (omega arith, ((omega arith, omega arith), c.requires _ (get_or_in c.args.slots.now 1 0 (omega (arith, c.told-slots)))))

pub slots_at-requires-3 : goal.slots_at-requires-3
slots_at-requires-3 c = (omega arith, ((omega arith, omega arith), c.requires _ (get_or_in c.args.slots.now 2 0 (omega (arith, c.told-slots)))))
