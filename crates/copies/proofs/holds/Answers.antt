-- `copies::holds` meets its contract: a hit of the search is a key of the part, and where it misses no key is the name. Assumes nothing.
use mathlib.Core.Path.{◌∙◌}
use Rattle.copies.proofs.Holders.{found_held}
use Rattle.copies.proofs.holds.Goals as goal

pub returns : goal.returns
returns c = c.is_ok.ensures.value ∙ found_held _ _ _ _ _ c.find.ensures
