-- `index::find`: the slot of a name in a part is where the search among the names of the part finds it. Assumes nothing.
use Rattle.index.specs.Find.{Sought}
use Rattle.index.proofs.Searched.{found, missed}
use Rattle.index.proofs.find.Goals as goal

pub returns-in-Ok : goal.returns-in-Ok
unfolding Sought
returns-in-Ok c = found _ _ _ c.requires.sorted _ _ c.in-Ok.ensures.position

pub returns-in-Err : goal.returns-in-Err
unfolding Sought
returns-in-Err c = missed _ _ _ c.requires.sorted _ _ c.in-Err.ensures.position
