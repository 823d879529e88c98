-- A list that passes with too few words. Assumes nothing.
use Prim.Native.Nat.{ℕ, ◌<◌}
use native.Mathlib.Omega.{arith}
use mathlib.Core.Path.{◌≡◌, sym, ◌∙◌}
use mathlib.Core.List.{List}
use Rattle.paper.specs.declared.Refusal.{Refusal}
use Rattle.paper.specs.Outcome.{nowhere, refusal}
use Rattle.paper.proofs.Outcomes.{as_refused}
use Rattle.paper.specs.Image.{Set, row_total}
use Rattle.std.proofs.Common.{Err}
use Rattle.demands.specs.Passed.{ListPassed}
use Rattle.sizing.specs.Steps.{Judges}
use Rattle.sizing.proofs.Answers.{few_words}

module _ (S : Set) (l : List ℕ) (work : ℕ) (passed : ListPassed S l) (rows : ℕ) (is : rows ≡ row_total S) where
  pub words_refused : work < rows → (r : Refusal) → r ≡ refusal 17 nowhere → Judges S l work (Err r)
  words_refused h r e = few_words S l work passed (omega arith) ∙ sym (as_refused e)
