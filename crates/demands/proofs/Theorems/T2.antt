-- T2: a mesh and a placement have an accepted image, where it is not too long.
-- Assumes nothing.
use Prim.Native.Nat.{ℕ, ◌^◌, ◌<◌, ◌≤◌}
use native.Mathlib.Omega.{arith}
use mathlib.Core.Path.{subst}
use mathlib.Core.List.{[]}
use lib.ListN.{length, get_or}
use Rattle.paper.specs.Image.{Set, image_of}
use Rattle.paper.specs.Mesh.{Parts}
use Rattle.paper.specs.Sound.{max_image}
use Rattle.paper.specs.Placement.{spread, rows_for, image_for}
use Rattle.demands.proofs.Theorems.Statements.{T2}
use Rattle.demands.proofs.Rows.Few.{rows_few}
use Rattle.demands.proofs.Mesh.ToFit.{spread_fit}
use Rattle.demands.proofs.Fit.Rows.{in_rows}
use Rattle.demands.proofs.Fit.ToSound.{fit_sound}
use Rattle.demands.proofs.Sound.Facts.{sound_accepts}

-- the rows of a part of an image that is not too long: a slot has 32 bits
row_few : (S : Set) (p : ℕ) → length (image_of S) ≤ max_image → length (get_or S p []) < 2 ^ 32
row_few S p h = omega (arith, rows_few S p)

pub part_few : (ps : Parts) (p : ℕ) → length (image_of (rows_for ps)) ≤ max_image → length (get_or ps p []) < 2 ^ 32
part_few ps p h = subst (λ (n : ℕ). n < 2 ^ 32) (in_rows ps p) (row_few (rows_for ps) p h)

pub theorem_2 : T2
unfolding image_for
theorem_2 n es place w small =
    let ps = spread n es place in
    sound_accepts (rows_for ps) (fit_sound ps (spread_fit n es place w) (λ p. part_few ps p small)) small
