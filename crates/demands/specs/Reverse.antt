-- The list that takes a list back: the same entries in the same order, their destinations the parts where the objects are now.
-- Assumes nothing.
use Rattle.std.specs.Prelude.{ℕ, zero, suc, ◌+◌, ◌*◌, List, set}
use Rattle.paper.specs.Placement.{Placement}
use Rattle.paper.specs.Move.{entry_name, whole_entries}

-- the destinations of the first n entries replaced
unfoldable pub turned : Placement → List ℕ → ℕ → List ℕ
turned place l zero = l
turned place l (suc i) = set (turned place l i) (8 * i + 5) (place (entry_name l i))

unfoldable pub reverse_of : Placement → List ℕ → List ℕ
reverse_of place l = turned place l (whole_entries l)

-- opens this module, for what is to compute
unfoldable pub computes : Unit {0}
unfolding turned reverse_of
computes = tt
