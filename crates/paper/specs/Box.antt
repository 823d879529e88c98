-- The box of a part (document 01, "The move"): the least and greatest x, y, z of its vertices, or "no vertex", which is an accepted answer.
-- Floats are lib.Ieee's, which tell minus zero from zero and compare them equal. Refusals 1 to 12 come first, then 20. Assumes nothing.
use Rattle.std.specs.Prelude.{ℕ, cond, List, [], ◌∷◌, map, length, get_or, ltb, eqb, Float}
use Rattle.std.proofs.Math.Option.{Option, none, some}
use Rattle.std.specs.Float.{binary64}
use Rattle.std.specs.Float.Ieee.{lt, odd, of_fields, of_bits}
use Rattle.std.specs.Int.Count.{count_trailing_zeros}
use Rattle.laws.specs.Lists.{keep}
use Rattle.field.specs.Bytes.{u64_at}
use Rattle.paper.specs.declared.Point.{Point}
use Rattle.paper.specs.declared.Box.{Box}
use Rattle.paper.specs.Sound
use Rattle.paper.specs.Outcome.{Outcome, accepted, ◌>>=◌, ◌>>◌, must}
use Rattle.paper.specs.Image.{Row}
use Rattle.paper.specs.Sound.{sound_of}

-- the coordinates of a vertex
unfoldable pub point_of : Row → Point
point_of r =
    record { x = of_bits binary64 (u64_at r.body 0); y = of_bits binary64 (u64_at r.body 8); z = of_bits binary64 (u64_at r.body 16) }

-- the new value only where it is strictly beyond: on equal values the earlier bits stay
unfoldable pub lesser : Float → Float → Float
lesser old new = cond (lt new old) new old

unfoldable pub greater : Float → Float → Float
greater old new = cond (lt old new) new old

-- the box grows by one vertex
unfoldable pub grow : Box → Point → Box
grow b p =
    record {
      least = record { x = lesser b.least.x p.x; y = lesser b.least.y p.y; z = lesser b.least.z p.z };
      greatest = record { x = greater b.greatest.x p.x; y = greater b.greatest.y p.y; z = greater b.greatest.z p.z };
    }

-- in slot order
unfoldable pub grow_all : Box → List Point → Box
grow_all b [] = b
grow_all b (p ∷ ps) = grow_all (grow b p) ps

-- none is "no vertex"; the first vertex starts the box
unfoldable pub box_around : List Point → Option Box
box_around [] = none
box_around (p ∷ ps) = some (grow_all (record { least = p; greatest = p }) ps)

unfoldable pub box_asked : List ℕ → ℕ → Outcome (Option Box)
box_asked b p = do
  S ← sound_of b
  must 20 (ltb p (length S))
  accepted (box_around (map point_of (keep (λ r. eqb r.dim 0) (get_or S p []))))

-- opens this module and those below it, for what is to compute
unfoldable pub computes : Unit {0}
unfolding Sound.computes lt count_trailing_zeros odd of_fields of_bits point_of lesser greater grow grow_all box_around box_asked
computes = tt
