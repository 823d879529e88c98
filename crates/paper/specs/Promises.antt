-- What each public function promises (document 01, "What the contracts must say"): for every input, refused or not, its answer and each
-- lent buffer afterwards. Nothing is required of an input. The code's contracts are these records. Assumes nothing.
use Rattle.std.specs.Prelude.{ℕ, ◌≡◌, List, length}
use Rattle.paper.specs.Outcome.{answered}
use Rattle.paper.specs.Sound.{check_of}
use Rattle.paper.specs.Move.{migrate_of, sizes_of, out_after, work_after}
use Rattle.paper.specs.Lookup.{lookup_of}
use Rattle.paper.specs.Box.{box_asked}
use Rattle.paper.specs.Answers.{check_answer, migrate_answer, lookup_answer, box_answer}
use Rattle.paper.specs.Given.{CheckAnswer, MigrateAnswer, LookupAnswer, BoxAnswer}

pub record Checks (image : List ℕ) (r : CheckAnswer) : Type 0 where
  pub answer : check_answer r ≡ check_of image

pub record Migrates (image list out work : List ℕ) (r : MigrateAnswer) (out' work' : List ℕ) : Type 0 where
  pub answer : migrate_answer r ≡ answered sizes_of (migrate_of image list (length out) (length work))
  pub output : out' ≡ out_after (migrate_of image list (length out) (length work)) out
  pub working : work' ≡ work_after work

pub record LooksUp (image : List ℕ) (dimension number : ℕ) (r : LookupAnswer) : Type 0 where
  pub answer : lookup_answer r ≡ lookup_of image dimension number

pub record Bounds (image : List ℕ) (part : ℕ) (r : BoxAnswer) : Type 0 where
  pub answer : box_answer r ≡ box_asked image part
