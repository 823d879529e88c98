-- T3: the image of a mesh and a placement holds them, where it is not too long.
-- Assumes nothing.
use Prim.Native.Nat.{ℕ, ◌^◌, ◌<◌}
use mathlib.Core.Path.{◌∙◌}
use mathlib.Core.List.{[]}
use lib.ListN.{length, get_or}
use Rattle.paper.specs.Placement.{spread, image_for}
use Rattle.demands.proofs.Theorems.Statements.{T3}
use Rattle.demands.proofs.Fit.Record.{Fit}
use Rattle.demands.proofs.Mesh.ToFit.{spread_fit, spread-mesh, spread-places}
use Rattle.demands.proofs.Mesh.Spread.{spread-length}
use Rattle.demands.proofs.Rows.Made.{rows-count}
use Rattle.demands.proofs.Fit.Rows.{parts_back}
use Rattle.demands.proofs.Fit.ToSound.{fit_bytes}
use Rattle.demands.proofs.Theorems.T2.{part_few}

pub theorem_3 : T3
unfolding image_for
theorem_3 n es place w small =
    let ps = spread n es place in
    let fit : Fit ps = spread_fit n es place w in
    let few : (p : ℕ) → length (get_or ps p []) < 2 ^ 32 = λ p. part_few ps p small in
    record {
      bytes = fit_bytes ps fit few;
      count = rows-count ps ∙ spread-length n es place;
      parts = parts_back ps fit few;
      mesh = spread-mesh n es place w;
      places = spread-places n es place w;
    }
