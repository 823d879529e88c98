-- The rows of a part, whose members are cut out of the list of all. Assumes nothing.
use Prim.Native.Nat.{ℕ, ◌+◌, ◌-◌}
use mathlib.Core.Path.{◌≡◌, ap}
use mathlib.Core.List.{List, map}
use lib.ListN.{get_or, take, drop}
use lib.Seq.{take-length}
use Rattle.paper.specs.Image.{bytes_of_part}
use Rattle.writer.specs.Rows.{new_rows}
use Rattle.writer.specs.Sources.{row_in, rows_in}
use Rattle.writer.specs.declared.NewRows.{NewRows}
use Rattle.output.specs.Sources.{part_in}

module _ (w : NewRows) (members begins : List ℕ) (q : ℕ) where
  -- the members of part q
  abbrev pub members_of : List ℕ
  members_of = take (get_or begins (q + 1) 0 - get_or begins q 0) (drop (get_or begins q 0) members)

  pub part_cut : bytes_of_part (rows_in w members_of q) ≡ part_in w members begins q
  unfolding new_rows
  part_cut = ap (λ (l : List ℕ). bytes_of_part (map (row_in w q) l)) (take-length members_of)
