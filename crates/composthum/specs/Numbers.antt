-- The numbers that the C calls hand back for each answer of the paper; every number that an answer does not set is 0. Assumes nothing.
use Rattle.std.specs.Prelude.{ℕ, ◌≡◌, List, [], ◌∷◌, length, Float}
use Rattle.std.proofs.Math.Option.{Option, none, some}
use Rattle.std.specs.Float.{binary64}
use Rattle.std.specs.Float.Ieee.{of_bits}
use Rattle.paper.specs.Outcome.{Outcome, refused, accepted, answered}
use Rattle.paper.specs.Sound as sound
use Rattle.paper.specs.Move.{Sizes, migrate_of, sizes_of, out_after, work_after}
use Rattle.paper.specs.Lookup as lookup
use Rattle.paper.specs.declared.Box.{Box}
use Rattle.paper.specs.declared.Point.{Point}
use Rattle.composthum.specs.declared.Checked.{Checked}
use Rattle.composthum.specs.declared.Migrated.{Migrated}
use Rattle.composthum.specs.declared.Found.{Found}
use Rattle.composthum.specs.declared.Boxed.{Boxed}

abbrev pub checked_of : Outcome sound.Checked → Checked
checked_of (refused k p) = record { refusal = k; major = p.major; minor = p.minor; parts = 0; rows = 0 }
checked_of (accepted c) = record { refusal = 0; major = 0; minor = 0; parts = c.parts; rows = c.rows }

abbrev pub migrated_of : Outcome Sizes → Migrated
migrated_of (refused k p) = record { refusal = k; major = p.major; minor = p.minor; length = 0; rows = 0; moved = 0 }
migrated_of (accepted s) = record { refusal = 0; major = 0; minor = 0; length = s.length; rows = s.rows; moved = s.moved }

-- what a migration hands back, and both lent buffers afterwards
pub record HandsBack (image list out work : List ℕ) (r : Migrated) (out' work' : List ℕ) : Type 0 where
  pub answer : r ≡ migrated_of (answered sizes_of (migrate_of image list (length out) (length work)))
  pub output : out' ≡ out_after (migrate_of image list (length out) (length work)) out
  pub working : work' ≡ work_after work

abbrev pub found_of : Outcome lookup.Found → Found
found_of (refused k p) = record { refusal = k; major = p.major; minor = p.minor; owner = 0; residence = 0 }
found_of (accepted f) = record { refusal = 0; major = 0; minor = 0; owner = f.owner; residence = f.residence }

-- the three coordinates of a point, and three zeros
abbrev pub coordinates : Point → List Float
coordinates p = p.x ∷ p.y ∷ p.z ∷ []

abbrev pub zeros : List Float
zeros = let z = of_bits binary64 0 in z ∷ z ∷ z ∷ []

abbrev pub boxed_of : Outcome (Option Box) → Boxed
boxed_of (refused k p) = record { refusal = k; major = p.major; minor = p.minor; any = 0; least = zeros; greatest = zeros }
boxed_of (accepted none) = record { refusal = 0; major = 0; minor = 0; any = 0; least = zeros; greatest = zeros }
boxed_of (accepted (some b)) = record { refusal = 0; major = 0; minor = 0; any = 1; least = coordinates b.least; greatest = coordinates b.greatest }
