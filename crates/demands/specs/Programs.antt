-- Programs that take what a public function takes, and which of them are correct: those that keep its promise for every input. A program
-- here is any function, so what no correct program does, no code that meets the contract does. Assumes nothing.
use Rattle.std.specs.Prelude.{ℕ, List, length, Err, Ok, None, Some}
use Rattle.std.proofs.Math.Option.{Option, none, some}
use Rattle.paper.specs.declared.Box.{Box}
use Rattle.paper.specs.Outcome.{Outcome, refusal, refused, accepted, answered}
use Rattle.paper.specs.Sound.{Checked, check_of}
use Rattle.paper.specs.Move.{Migrated, Sizes, migrate_of, sizes_of, out_after, work_after}
use Rattle.paper.specs.Lookup.{Found, lookup_of}
use Rattle.paper.specs.Box.{box_asked}
use Rattle.paper.specs.Promises.{Checks, Migrates, LooksUp, Bounds}
use Rattle.paper.specs.Given.{CheckAnswer, MigrateAnswer, LookupAnswer, BoxAnswer, sound_answer_of, moved_answer_of, found_answer_of}

-- ---- migrators

-- what a call leaves: its answer and both lent buffers
pub record Done : Type 0 where
  pub answer : MigrateAnswer
  pub out : List ℕ
  pub work : List ℕ

-- from image, list, output buffer and working buffer
abbrev pub Migrator : Type 0
Migrator = List ℕ → List ℕ → List ℕ → List ℕ → Done

abbrev pub Correct : Migrator → Type 0
Correct f =
    (image list out work : List ℕ)
    → Migrates image list out work (f image list out work).answer (f image list out work).out (f image list out work).work

-- one that may do otherwise at a later call: a migrator for each number of calls before
abbrev pub AlwaysCorrect : (ℕ → Migrator) → Type 0
AlwaysCorrect f = (calls : ℕ) → Correct (f calls)

-- ---- the others

abbrev pub CorrectCheck : (List ℕ → CheckAnswer) → Type 0
CorrectCheck f = (image : List ℕ) → Checks image (f image)

abbrev pub CorrectLookup : (List ℕ → ℕ → ℕ → LookupAnswer) → Type 0
CorrectLookup f = (image : List ℕ) (dimension number : ℕ) → LooksUp image dimension number (f image dimension number)

abbrev pub CorrectBox : (List ℕ → ℕ → BoxAnswer) → Type 0
CorrectBox f = (image : List ℕ) (part : ℕ) → Bounds image part (f image part)

-- ---- the program that does what the paper says

abbrev pub check_says : Outcome Checked → CheckAnswer
check_says (refused k p) = Err (refusal k p)
check_says (accepted c) = sound_answer_of c.parts c.rows

abbrev pub migrate_says : Outcome Sizes → MigrateAnswer
migrate_says (refused k p) = Err (refusal k p)
migrate_says (accepted s) = moved_answer_of s.length s.rows s.moved

abbrev pub lookup_says : Outcome Found → LookupAnswer
lookup_says (refused k p) = Err (refusal k p)
lookup_says (accepted f) = found_answer_of f.residence (record { 0 = f.owner })

abbrev pub box_says : Outcome (Option Box) → BoxAnswer
box_says (refused k p) = Err (refusal k p)
box_says (accepted none) = Ok None
box_says (accepted (some b)) = Ok (Some b)

-- what a migration leaves that comes to the outcome o
abbrev pub done_with : Outcome Migrated → List ℕ → List ℕ → Done
done_with o out work = record { answer = migrate_says (answered sizes_of o); out = out_after o out; work = work_after work }

abbrev pub exact : Migrator
exact image list out work = done_with (migrate_of image list (length out) (length work)) out work

abbrev pub exact_check : List ℕ → CheckAnswer
exact_check image = check_says (check_of image)

abbrev pub exact_lookup : List ℕ → ℕ → ℕ → LookupAnswer
exact_lookup image dimension number = lookup_says (lookup_of image dimension number)

abbrev pub exact_box : List ℕ → ℕ → BoxAnswer
exact_box image part = box_says (box_asked image part)
