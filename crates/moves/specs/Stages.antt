-- The list as a whole under its rules. Assumes nothing.
use Rattle.std.specs.Prelude.{ℕ, ◌≡◌, List, Result, Ok, Err}
use Rattle.paper.specs.declared.Refusal.{Refusal}
use Rattle.paper.specs.Outcome.{place_of, refused}
use Rattle.paper.specs.Image.{Set}
use Rattle.paper.specs.Move.{size_set}
use Rattle.demands.specs.Passed.{ListPassed}

-- the refusal that sizing gives, whatever the working buffer; or every entry passes all rules
abbrev pub ListJudged : Set → List ℕ → Result (Unit {0}) Refusal → Type 0
ListJudged S l (Err r) = (work : ℕ) → size_set S l work ≡ refused r.number (place_of r)
ListJudged S l (Ok u) = ListPassed S l
