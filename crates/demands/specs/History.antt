-- Sequences of migrations, refused ones included, each starting from the last accepted image (demand 3). Assumes nothing.
use Rattle.std.specs.Prelude.{ℕ, List, [], ◌∷◌}
use Rattle.paper.specs.Outcome.{Outcome, refused, accepted}
use Rattle.paper.specs.Placement.{Placement}
use Rattle.paper.specs.Move
use Rattle.paper.specs.Move.{Migrated, moved, migrate_of}

-- one call: the list, and the lengths of the output buffer and the working buffer
pub record Ask : Type 0 where
  pub list : List ℕ
  pub out : ℕ
  pub work : ℕ

abbrev pub answer : List ℕ → Ask → Outcome Migrated
answer b a = migrate_of b a.list a.out a.work

-- the last accepted image after one call
unfoldable pub image_after : List ℕ → Outcome Migrated → List ℕ
image_after b (refused k p) = b
image_after b (accepted m) = m.image

unfoldable pub history : List ℕ → List Ask → List ℕ
history b [] = b
history b (a ∷ as') = history (image_after b (answer b a)) as'

unfoldable pub place_after : List ℕ → Placement → Outcome Migrated → Placement
place_after l place (refused k p) = place
place_after l place (accepted m) = moved l place

-- each object's part: the last destination that an accepted migration gave it, or its first part if none named it
unfoldable pub last_places : List ℕ → List Ask → Placement → Placement
last_places b [] place = place
last_places b (a ∷ as') place = last_places (image_after b (answer b a)) as' (place_after a.list place (answer b a))

-- opens this module and those below it, for what is to compute
unfoldable pub computes : Unit {0}
unfolding Move.computes image_after history place_after last_places
computes = tt
