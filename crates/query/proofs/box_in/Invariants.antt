-- `query::box_in`: the box so far, grown by the vertices of the rows that are left, is that of all rows. Assumes nothing.
use mathlib.Core.List.{[]}
use lib.ListN.{get_or}
use Rattle.rows.specs.Tables.{set_of}
use Rattle.query.specs.Vertices.{box_within}
use Rattle.query.proofs.Growing.{Left}
use Rattle.query.proofs.box_in.Given as goal

abbrev pub invariant-loop-s : goal.invariant-loop-s
invariant-loop-s l = Left (get_or (set_of l.tables) l.part.0 []) l.s (box_within l.extent)
