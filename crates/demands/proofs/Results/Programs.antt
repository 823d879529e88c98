-- Each promise is kept by a program, and by no other: a program that keeps it does for every input what that one does.
-- Assumes nothing.
use Prim.Native.Nat.{ℕ}
use mathlib.Core.Path.{◌≡◌, refl}
use mathlib.Core.List.{List}
use mathlib.Core.Option.{Option, none, some}
use lib.ListN.{length}
use Rattle.paper.specs.declared.Box.{Box}
use Rattle.paper.specs.Outcome.{Outcome, refused, accepted, answered}
use Rattle.paper.specs.Sound.{Checked, check_of}
use Rattle.paper.specs.Move.{Sizes, migrate_of, sizes_of}
use Rattle.paper.specs.Lookup.{Found, lookup_of}
use Rattle.paper.specs.Box.{box_asked}
use Rattle.paper.specs.Answers.{check_answer, migrate_answer, lookup_answer, box_answer}
use Rattle.demands.specs.Programs.{Migrator, Correct, CorrectCheck, CorrectLookup, CorrectBox, check_says, migrate_says, lookup_says, box_says, exact, exact_check, exact_lookup, exact_box}
use Rattle.demands.proofs.Results.Unique.{checks_one, migrates_one, looks_up_one, bounds-one}
use Rattle.paper.specs.Given.{CheckAnswer, LookupAnswer, BoxAnswer}

-- ---- an answer for each outcome

check_says_lem : (o : Outcome Checked) → check_answer (check_says o) ≡ o
check_says_lem (refused k p) = refl
check_says_lem (accepted c) = refl

migrate_says_lem : (o : Outcome Sizes) → migrate_answer (migrate_says o) ≡ o
migrate_says_lem (refused k p) = refl
migrate_says_lem (accepted s) = refl

lookup_says_lem : (o : Outcome Found) → lookup_answer (lookup_says o) ≡ o
lookup_says_lem (refused k p) = refl
lookup_says_lem (accepted f) = refl

box_says_lem : (o : Outcome (Option Box)) → box_answer (box_says o) ≡ o
box_says_lem (refused k p) = refl
box_says_lem (accepted none) = refl
box_says_lem (accepted (some b)) = refl

-- ---- kept

pub exact_correct : Correct exact
exact_correct image list out work =
    record { answer = migrate_says_lem (answered sizes_of (migrate_of image list (length out) (length work))); output = refl; working = refl }

pub exact-check : CorrectCheck exact_check
exact-check image = record { answer = check_says_lem (check_of image) }

pub exact-lookup : CorrectLookup exact_lookup
exact-lookup image dimension number = record { answer = lookup_says_lem (lookup_of image dimension number) }

pub exact-box : CorrectBox exact_box
exact-box image part = record { answer = box_says_lem (box_asked image part) }

-- ---- by no other

pub only_exact : (f : Migrator) → Correct f → (image list out work : List ℕ) → f image list out work ≡ exact image list out work
only_exact f c image list out work =
    let w = migrates_one (c image list out work) (exact_correct image list out work) in λ i. record { answer = w.0 i; out = w.1 i; work = w.2 i }

pub only_exact_check : (f : List ℕ → CheckAnswer) → CorrectCheck f → (image : List ℕ) → f image ≡ exact_check image
only_exact_check f c image = checks_one (c image) (exact-check image)

pub only_exact_lookup : (f : List ℕ → ℕ → ℕ → LookupAnswer) → CorrectLookup f → (image : List ℕ) (dimension number : ℕ) → f image dimension number ≡ exact_lookup image dimension number
only_exact_lookup f c image dimension number = looks_up_one (c image dimension number) (exact-lookup image dimension number)

pub only_exact_box : (f : List ℕ → ℕ → BoxAnswer) → CorrectBox f → (image : List ℕ) (part : ℕ) → f image part ≡ exact_box image part
only_exact_box f c image part = bounds-one (c image part) (exact-box image part)
