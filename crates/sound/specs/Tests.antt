-- The tests of a row by name: the six rules, and `Twins`, that the copies which a row names agree, which is half of the rule Copies. Each closure
-- that the code asks says what its test here says (`Faults.Judges`, `proofs/Behind.antt`). Assumes nothing.
use Rattle.std.specs.Prelude.{ℕ, Bool}
use Rattle.paper.specs.declared.Rule.{Rule}
use Rattle.paper.specs.declared.Rule.TheVariants as rule
use Rattle.paper.specs.Image.{Set}
use Rattle.paper.specs.Sound.{judged}
use Rattle.copies.specs.Copies.{twins_agree}

pub data Test : Type 0 where
  Fields : Test
  Order : Test
  Boundary : Test
  Twins : Test
  Copies : Test
  Residence : Test
  Owner : Test

-- row s of part p passes the test
abbrev pub tested : Test → Set → ℕ → ℕ → Bool
tested Fields S p s = judged rule.Fields S p s
tested Order S p s = judged rule.Order S p s
tested Boundary S p s = judged rule.Boundary S p s
tested Twins S p s = twins_agree S p s
tested Copies S p s = judged rule.Copies S p s
tested Residence S p s = judged rule.Residence S p s
tested Owner S p s = judged rule.Owner S p s

-- the rule that a test is of, and the test for a rule
abbrev pub rule_for : Test → Rule
rule_for Fields = rule.Fields
rule_for Order = rule.Order
rule_for Boundary = rule.Boundary
rule_for Twins = rule.Copies
rule_for Copies = rule.Copies
rule_for Residence = rule.Residence
rule_for Owner = rule.Owner

abbrev pub test_of : Rule → Test
test_of rule.Fields = Fields
test_of rule.Order = Order
test_of rule.Boundary = Boundary
test_of rule.Copies = Copies
test_of rule.Residence = Residence
test_of rule.Owner = Owner
