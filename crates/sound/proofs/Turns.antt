-- What each rule's own function wants of a row whose turn has come. Assumes nothing.
use Prim.Native.Nat.{ℕ, ◌+◌, ◌<◌}
use native.Mathlib.Omega.{arith}
use mathlib.Core.List.{List, []}
use lib.ListN.{length, get_or}
use Rattle.paper.specs.declared.Rule.TheVariants.{Fields, Order, Boundary}
use Rattle.paper.specs.Sound.{judged}
use Rattle.demands.specs.Passed.{PassedAhead}
use Rattle.index.specs.Index.{set_in, Indexed, Named}
use Rattle.boundary.specs.Boundary.{RowAhead}
use Rattle.rows.proofs.Copied.{index_own}
use Rattle.rows.proofs.Laws.{part_there, row_there}
use Rattle.sound.specs.Ready.{Due}

module _ {b offs starts : List ℕ} {n : ℕ} (index : Indexed b offs starts n) (p s : ℕ) (there : s < length (get_or (set_in b) p [])) where
  -- the row stands in the tables
  pub part_within : p < length starts
  part_within = omega (arith, part_there index _ _ there, index.few, index.starts_room)

  pub row_within : get_or starts p 0 + s < length offs
  row_within = omega (arith, row_there index _ _ there, index.offs_room)

module _ {b offs starts keys : List ℕ} {n : ℕ} (index : Indexed b offs starts n) (named : Named b starts keys) {p s : ℕ} where
  pub for_boundary : PassedAhead Boundary (set_in b) → Due (judged Boundary (set_in b)) (set_in b) p s → RowAhead b offs starts keys p s
  for_boundary ahead due = record {
    index = index_own index;
    named = named;
    fields = ahead Fields (omega arith);
    order = ahead Order (omega arith);
    before = due.before;
    here = due.there;
  }
