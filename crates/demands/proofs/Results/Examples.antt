-- Small meshes beside those of document 01, for what is computed here, buffers, and an answer as a number. Assumes nothing.
use Prim.Native.Nat.{ℕ}
use mathlib.Core.List.{List, [], ◌∷◌}
use lib.ListN.{replicate}
use Rattle.paper.specs.Outcome.{Outcome, refused, accepted}
use Rattle.paper.specs.Mesh.{Parts}
use Rattle.paper.proofs.Meshes.{v1, v2, v3, v4, v5, e1, e2, e3, e4, e5, t1, t2, image_with}

-- the parts of mesh B
abbrev pub parts_b : Parts
parts_b = (v1 ∷ v2 ∷ v3 ∷ e1 ∷ e2 ∷ e3 ∷ t1 ∷ []) ∷ (v2 ∷ v3 ∷ v4 ∷ e3 ∷ e4 ∷ e5 ∷ t2 ∷ []) ∷ []

-- B with the lone vertex 5 in part 0, as case 4 leaves it
abbrev pub B₅ : List ℕ
B₅ = image_with ((v1 ∷ v2 ∷ v3 ∷ v5 ∷ e1 ∷ e2 ∷ e3 ∷ t1 ∷ []) ∷ (v2 ∷ v3 ∷ v4 ∷ e3 ∷ e4 ∷ e5 ∷ t2 ∷ []) ∷ [])

-- n bytes, or n words, of zero
abbrev pub zeros : ℕ → List ℕ
zeros n = replicate n 0

-- the refusal's number, or 0
abbrev pub code : {A : Type 0} → Outcome A → ℕ
code (refused k p) = k
code (accepted a) = 0
