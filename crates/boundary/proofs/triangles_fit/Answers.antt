-- `boundary::triangles_fit`: each triangle is there. Assumes nothing.
use native.Mathlib.Omega.{arith}
use Rattle.laws.proofs.Members.{get_or_in}
use Rattle.boundary.proofs.triangles_fit.Goals as goal

pub corners_at-requires : goal.corners_at-requires
corners_at-requires c = c.requires _ (get_or_in c.args.slots.now 0 0 (omega (arith, c.told-slots)))

pub corners_at-requires-2 : goal.corners_at-requires-2
corners_at-requires-2 c = c.requires _ (get_or_in c.args.slots.now 1 0 (omega (arith, c.told-slots)))

pub corners_at-requires-3 : goal.corners_at-requires-3
corners_at-requires-3 c = c.requires _ (get_or_in c.args.slots.now 2 0 (omega (arith, c.told-slots)))

pub corners_at-requires-4 : goal.corners_at-requires-4
corners_at-requires-4 c = c.requires _ (get_or_in c.args.slots.now 3 0 (omega (arith, c.told-slots)))
