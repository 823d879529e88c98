-- Parts that fit: what soundness says of the entities of each part, apart from rows, slots and bytes. Sound rows have parts that
-- fit (Sound to Fit), parts that fit have sound rows (Fit to Sound), parts that fit are the spread of their mesh (Fit to mesh), and
-- a mesh spreads into parts that fit (mesh to Fit).
-- Assumes nothing.
use Prim.Native.Nat.{ℕ, ◌<◌, ◌≤◌}
use mathlib.Core.Path.{◌≡◌}
use mathlib.Core.Logic.{◌⊎◌}
use mathlib.Core.List.{[], map}
use lib.ListN.{length, get_or}
use lib.Dec.{T}
use Rattle.laws.specs.Lists.{In, flat, ascending}
use Rattle.paper.specs.Mesh.{Entity, Parts, name, bounds, is_object}
use Rattle.demands.proofs.Entities.Fits.{EntOk}

pub record Fit (ps : Parts) : Type 0 where
  pub some_part : 0 < length ps
  pub few_parts : length ps ≤ 64
  pub ascends : (p : ℕ) → T (ascending (map name (get_or ps p [])))
  pub agree : (p q : ℕ) (e f : Entity) → In e (get_or ps p []) → In f (get_or ps q []) → name e ≡ name f → e ≡ f
  pub fits : (p : ℕ) (e : Entity) → In e (get_or ps p []) → EntOk (get_or ps p []) e
  pub once : (p q : ℕ) (e : Entity) → In e (get_or ps p []) → In e (get_or ps q []) → T (is_object (flat ps) (name e)) → p ≡ q
  pub resides : (p : ℕ) (e : Entity) → In e (get_or ps p [])
      → T (is_object (flat ps) (name e)) ⊎ ((f : Entity) × In f (get_or ps p []) × T (bounds (name e) f))
