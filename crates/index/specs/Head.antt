-- The head of an image: the refusals 1 to 5 as a number. Assumes nothing.
use Rattle.std.specs.Prelude.{ℕ, cond, List, length, leb, eqb, Result, Ok, Err}
use Rattle.field.specs.Bytes.{u16_at}
use Rattle.paper.specs.declared.Unplaced.{Unplaced}
use Rattle.paper.specs.Unplaced.{number_of_unplaced}
use Rattle.paper.specs.Sound.{max_image, marked, parts_counted}

-- the number of the first refusal of the head, or 0
unfoldable pub head_number : List ℕ → ℕ
head_number b =
    cond (leb (length b) max_image) (cond (leb 8 (length b)) (cond (marked b) (cond (eqb (u16_at b 3) 1) (cond (parts_counted b) 0 5) 4) 3) 2) 1

-- the number of the refusal that an answer tells, or 0
abbrev pub head_answer : Result (Unit {0}) Unplaced → ℕ
head_answer (Ok _) = 0
head_answer (Err reason) = number_of_unplaced reason
