-- `boundary::fit`: the vertices, one a turn. Assumes nothing.
use Prim.Native.Nat.{ℕ, ◌<◌}
use Rattle.std.specs.Prelude.{remove}
use Rattle.laws.specs.Lists.{In}
use Rattle.boundary.proofs.fit.Given as goal

abbrev pub invariant-loop-place : goal.invariant-loop-place
invariant-loop-place g l = (k : ℕ) → k < l.place → In (remove l.vertices k) l.faces
