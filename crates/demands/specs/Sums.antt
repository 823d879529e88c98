-- Sums over a mesh, and over its parts one by one, as a solver adds up heat: a weight is a number for each entity. Assumes nothing.
use Rattle.std.specs.Prelude.{ℕ, suc, ◌+◌, Bool, List, [], ◌∷◌, eqb}
use Rattle.laws.specs.Lists.{keep, flat}
use Rattle.part_set.specs.Masks.{parts_in}
use Rattle.paper.specs.Mesh.{Entity, Parts, name, is_object, owner_among}
use Rattle.paper.specs.Placement.{residence_in}

unfoldable pub sum_of : (Entity → ℕ) → List Entity → ℕ
sum_of w [] = 0
sum_of w (e ∷ es) = w e + sum_of w es

-- part by part: of part p the entities that `counts p` passes
unfoldable pub sum_parts : (Entity → ℕ) → (ℕ → Entity → Bool) → Parts → ℕ
sum_parts w counts [] = 0
sum_parts w counts (es ∷ ps) = sum_of w (keep (counts 0) es) + sum_parts w (λ p. counts (suc p)) ps

-- each part counts its partition objects
unfoldable pub over_objects : (Entity → ℕ) → Parts → ℕ
over_objects w ps = sum_parts w (λ p e. is_object (flat ps) (name e)) ps

-- each part counts what it owns
unfoldable pub over_owned : (Entity → ℕ) → Parts → ℕ
over_owned w ps = sum_parts w (λ p e. eqb (owner_among ps (parts_in (residence_in ps (name e)))) p) ps
