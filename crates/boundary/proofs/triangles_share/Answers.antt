-- `boundary::triangles_share`: the edges of each triangle are read, and each two compared. Assumes nothing.
use native.Mathlib.Omega.{arith}
use mathlib.Core.Path.{sym, ap, ◌∙◌}
use Rattle.laws.specs.Lists.{pairwise}
use Rattle.laws.proofs.Members.{get_or_in}
use Rattle.boundary.specs.Boundary.{shares}
use Rattle.boundary.proofs.Tests.{mapped_four}
use Rattle.boundary.proofs.triangles_share.Goals as goal

pub slots_at-requires : goal.slots_at-requires
slots_at-requires c = (omega arith, ((omega arith, omega arith), c.requires _ (get_or_in c.args.slots.now 0 0 (omega (arith, c.told-slots)))))

pub slots_at-requires-2 : goal.slots_at-requires-2
slots_at-requires-2 c = (omega arith, ((omega arith, omega arith), c.requires _ (get_or_in c.args.slots.now 1 0 (omega (arith, c.told-slots)))))

pub slots_at-requires-3 : goal.slots_at-requires-3
slots_at-requires-3 c = (omega arith, ((omega arith, omega arith), c.requires _ (get_or_in c.args.slots.now 2 0 (omega (arith, c.told-slots)))))

pub slots_at-requires-4 : goal.slots_at-requires-4
slots_at-requires-4 c = (omega arith, ((omega arith, omega arith), c.requires _ (get_or_in c.args.slots.now 3 0 (omega (arith, c.told-slots)))))

pub returns : goal.returns
returns c = c.each_two_share.ensures ∙ ap (pairwise shares) (sym (mapped_four _ c.args.slots.now c.told-slots c.slots_at.ensures c.slots_at-2.ensures c.slots_at-3.ensures c.slots_at-4.ensures))
