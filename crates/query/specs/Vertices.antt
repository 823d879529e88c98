-- The vertices among rows as points, in slot order, and a box so far that grows by them. Assumes nothing.
use Rattle.std.specs.Prelude.{List, map, eqb, Option, None, Some}
use Rattle.std.proofs.Math.Option as math
use Rattle.laws.specs.Lists.{keep}
use Rattle.paper.specs.declared.Point.{Point}
use Rattle.paper.specs.declared.Box.{Box}
use Rattle.paper.specs.Image.{Row}
use Rattle.paper.specs.Box.{point_of, grow_all, box_around}

unfoldable pub vertices : List Row → List Point
vertices rows = map point_of (keep (λ r. eqb r.dim 0) rows)

-- a box that the code has, if it has one
abbrev pub box_within : Option Box → math.Option Box
box_within None = math.none
box_within (Some b) = math.some b

-- the box so far, and these points after it
unfoldable pub further : math.Option Box → List Point → math.Option Box
further math.none ps = box_around ps
further (math.some b) ps = math.some (grow_all b ps)
