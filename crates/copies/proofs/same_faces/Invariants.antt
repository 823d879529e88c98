-- `copies::same_faces` meets its contract: what is left of the test from slot i on gives the whole test. Assumes nothing.
use Prim.Native.Nat.{◌+◌}
use lib.Dec.{eqb}
use Rattle.copies.specs.Copies.{face_key}
use Rattle.copies.proofs.Loops.{Left}
use Rattle.copies.proofs.same_faces.Given as goal

abbrev pub invariant-loop-i : goal.invariant-loop-i
invariant-loop-i l = Left (λ i. eqb (face_key l.image l.keys l.here l.at i) (face_key l.image l.keys l.there l.to i)) (l.dim + 1) l.i
