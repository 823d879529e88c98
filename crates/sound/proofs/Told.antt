-- What the tests and the stages say, each read off by its case. Assumes nothing.
use Prim.Native.Nat.{ℕ}
use mathlib.Core.Path.{◌≡◌, refl, sym, ap, ◌∙◌}
use mathlib.Core.Bool.{Bool}
use mathlib.Core.List.{List}
use Rattle.std.specs.Prelude.{Result, Ok, Err}
use Rattle.paper.specs.declared.Rule.{Rule}
use Rattle.paper.specs.declared.Rule.TheVariants as rule
use Rattle.paper.specs.declared.Refusal.{Refusal}
use Rattle.paper.specs.Outcome.{place_of, refused}
use Rattle.paper.specs.Image.{Set}
use Rattle.paper.specs.Sound.{judged, rules_of, sound_of}
use Rattle.demands.specs.Passed.{PassedThrough}
use Rattle.sound.specs.declared.Examined.{Examined}
use Rattle.sound.specs.Tests.{Test, tested, rule_for, test_of}
use Rattle.sound.specs.Stages.{UpTo, Examines}

-- ---- the test for a rule is the rule's

pub tested_rule : (r : Rule) (S : Set) → tested (test_of r) S ≡ judged r S
tested_rule rule.Fields S = refl
tested_rule rule.Order S = refl
tested_rule rule.Boundary S = refl
tested_rule rule.Copies S = refl
tested_rule rule.Residence S = refl
tested_rule rule.Owner S = refl

pub rule_tested : (r : Rule) → rule_for (test_of r) ≡ r
rule_tested rule.Fields = refl
rule_tested rule.Order = refl
rule_tested rule.Boundary = refl
rule_tested rule.Copies = refl
rule_tested rule.Residence = refl
rule_tested rule.Owner = refl

module _ {test told : Test} (e : test ≡ told) where
  pub as_told : (S : Set) (p s : ℕ) {r : Bool} → r ≡ tested told S p s → r ≡ tested test S p s
  as_told S p s is = is ∙ sym (ap (λ (x : Test). tested x S p s) e)

-- ---- what a stage says

module _ (S : Set) (rule : Rule) {stage : Result (Unit {0}) Refusal} (up : UpTo rule S stage) where
  pub stopped : (r : Refusal) → stage ≡ Err r → rules_of S ≡ refused r.number (place_of r)
  stopped r e = rw e at up

  -- and so for any rules behind them
  pub halted : (last : Rule) (r : Refusal) → stage ≡ Err r → UpTo last S (Err r)
  halted last r e = stopped r e

  pub gone : stage ≡ Ok tt → PassedThrough rule S
  gone e = rw e at up

-- ---- what the check says that refuses

module _ (b offs starts keys covered ord : List ℕ) {x : Result Examined Refusal} (examines : Examines b offs starts keys covered ord x) where
  pub refused_image : (r : Refusal) → x ≡ Err r → sound_of b ≡ refused r.number (place_of r)
  refused_image r e = rw e at examines
