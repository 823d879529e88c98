-- `copies::holders_listed` meets its contract: what is left of the test from part q on gives the whole test. Assumes nothing.
use mathlib.Core.Bool.{not, ◌||◌}
use Rattle.laws.specs.Lists.{member}
use Rattle.part_set.specs.Masks.{has}
use Rattle.copies.specs.Copies.{part_keys}
use Rattle.copies.proofs.Loops.{Left}
use Rattle.copies.proofs.holders_listed.Given as goal

abbrev pub invariant-loop-q : goal.invariant-loop-q
invariant-loop-q l = Left (λ q. not (member l.name (part_keys l.keys l.tables.starts.now q)) || has l.mask q) l.tables.parts l.q
