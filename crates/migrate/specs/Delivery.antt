-- What is delivered once an image is sized: the answer and the output. Assumes nothing.
use Rattle.std.specs.Prelude.{ℕ, ◌≡◌, List, length, leb}
use Rattle.paper.specs.Given.{MigrateAnswer}
use Rattle.paper.specs.Outcome.{Outcome, answered, accepted, must, ◌>>◌}
use Rattle.paper.specs.Move.{Migrated, Sizes, sizes_of, out_after}
use Rattle.paper.specs.Answers.{migrate_answer}
use Rattle.sizing.specs.declared.Fits.{Fits}

-- refusal 19, the last
abbrev pub last_of : ℕ → Migrated → Outcome Migrated
last_of out m = must 19 (leb (length m.image) out) >> accepted m

-- the numbers of an answer
abbrev pub numbers_of : Fits → Sizes
numbers_of f = record { length = f.bytes; rows = f.rows; moved = f.moved }

-- all that is left of a migration that is sized
pub record Delivers (m : Migrated) (out : List ℕ) (r : MigrateAnswer) (out' : List ℕ) : Type 0 where
  pub answer : migrate_answer r ≡ answered sizes_of (last_of (length out) m)
  pub output : out' ≡ out_after (last_of (length out) m) out
