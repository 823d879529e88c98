-- Lookup (document 01, "The move"): an entity's residence set and owner. Refusals 1 to 12 come first, then 21. Assumes nothing.
use Rattle.std.specs.Prelude.{ℕ, Bool, List, eqb}
use Rattle.laws.specs.Lists.{flat, first_or, some?}
use Rattle.paper.specs.Sound
use Rattle.paper.specs.Outcome.{Outcome, accepted, ◌>>=◌, ◌>>◌, must}
use Rattle.paper.specs.Image.{Row, no_row}
use Rattle.paper.specs.Mesh.{name_of}
use Rattle.paper.specs.Sound.{sound_of, name_of_row}

pub record Found : Type 0 where
  pub residence : ℕ
  pub owner : ℕ

unfoldable pub is_named : ℕ → ℕ → Row → Bool
is_named d k r = eqb (name_of d k) (name_of_row r)

unfoldable pub home_of : Row → Found
home_of r = record { residence = r.mask; owner = r.owner }

-- all copies agree, so the first one answers
unfoldable pub lookup_of : List ℕ → ℕ → ℕ → Outcome Found
lookup_of b d k = do
  S ← sound_of b
  must 21 (some? (is_named d k) (flat S))
  accepted (home_of (first_or no_row (is_named d k) (flat S)))

-- opens this module and those below it, for what is to compute
unfoldable pub computes : Unit {0}
unfolding Sound.computes is_named home_of lookup_of
computes = tt
