-- The words that ask for a task. Assumes nothing.
use Rattle.std.specs.Prelude.{◌≡◌, ◌≢◌, ℕ, List, Result, MatchResult, codes}
use Rattle.arguments.specs.declared.task.Task.{Task}
use Rattle.arguments.specs.declared.task.Task.TheVariants.{Check, List as ListTask, Lookup, Box, Migrate}
use Rattle.arguments.specs.declared.task.UnknownTask.{UnknownTask}

abbrev pub word_of : Task → List ℕ
word_of Check = codes "check"
word_of ListTask = codes "list"
word_of Lookup = codes "lookup"
word_of Box = codes "box"
word_of Migrate = codes "migrate"

-- the task that the word asks for, or an error where it asks for none
abbrev pub AsksFor : List ℕ → Result Task UnknownTask → Type 0
AsksFor word r = MatchResult r (λ task. word ≡ word_of task) (λ _. (task : Task) → word ≢ word_of task)
