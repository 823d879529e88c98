-- The public answers as a caller gets them: a refusal, or what was asked for. Assumes nothing.
use Rattle.std.specs.Prelude.{ℕ, Option, Result, Ok}
use Rattle.paper.specs.declared.Box.{Box}
use Rattle.paper.specs.declared.Part.{Part}
use Rattle.paper.specs.declared.Refusal.{Refusal}
use Rattle.paper.specs.declared.Sound.{Sound}
use Rattle.paper.specs.declared.Moved.{Moved}
use Rattle.paper.specs.declared.Home.{Home}

abbrev pub CheckAnswer : Type 0
CheckAnswer = Result Sound Refusal

abbrev pub MigrateAnswer : Type 0
MigrateAnswer = Result Moved Refusal

abbrev pub LookupAnswer : Type 0
LookupAnswer = Result Home Refusal

abbrev pub BoxAnswer : Type 0
BoxAnswer = Result (Option Box) Refusal

-- part count and rows of a sound set
abbrev pub sound_answer_of : ℕ → ℕ → CheckAnswer
sound_answer_of parts rows = Ok (record { parts = parts; rows = rows })

-- length, rows and moved objects of a new image
abbrev pub moved_answer_of : ℕ → ℕ → ℕ → MigrateAnswer
moved_answer_of length rows moved = Ok (record { length = length; rows = rows; moved = moved })

-- residence set and owner of an entity
abbrev pub found_answer_of : ℕ → Part → LookupAnswer
found_answer_of residence owner = Ok (record { residence = residence; owner = owner })
