-- T1: an accepted image is the canonical image of its mesh and placement, and these fit.
-- Assumes nothing.
use Prim.Native.Nat.{ℕ}
use mathlib.Core.Path.{ap, ◌∙◌, subst}
use Rattle.paper.specs.Image.{image_of}
use Rattle.paper.specs.Mesh.{parts_of}
use Rattle.paper.specs.Placement.{spread, WellPlaced}
use Rattle.demands.proofs.Theorems.Statements.{T1, mesh, places}
use Rattle.demands.proofs.Fit.Record.{Fit}
use Rattle.demands.proofs.Fit.ToMesh.{is_spread, well_placed}
use Rattle.demands.proofs.Sound.Facts.{sound_inv}
use Rattle.demands.proofs.Sound.Rows.{parts_count, names_ascend}
use Rattle.demands.proofs.Sound.ToFit.{sound_fit}
use Rattle.demands.proofs.Sound.Canonical.{sound_canon}

pub theorem_1 : T1
theorem_1 b S y a =
    let w = sound_inv b S y a in
    let f : Fit (parts_of S) = sound_fit S w.0 in
    record {
      bytes = w.1 ∙ ap image_of (sound_canon S w.0);
      ascends = names_ascend S w.0.copied;
      parts = is_spread (parts_of S) f ∙ ap (λ (n : ℕ). spread n (mesh S) (places S)) (parts_count S);
      fits = subst (λ (n : ℕ). WellPlaced n (mesh S) (places S)) (parts_count S) (well_placed (parts_of S) f);
    }
