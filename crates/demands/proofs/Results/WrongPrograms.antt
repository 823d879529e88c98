-- The wrong programs are not correct: for each an input, a small mesh and a list, on which it breaks the promise, by computation.
-- Assumes nothing.
use Prim.Native.Nat.{ℕ}
use native.Mathlib.Omega.{arith}
use mathlib.Core.Path.{◌≡◌, refl, sym, ap, ◌∙◌, fun_ext}
use mathlib.Core.List.{List, [], ◌∷◌, ◌++◌}
use mathlib.Core.Option.{Option, none, some}
use lib.ListN.{length, get_or}
use lib.Ieee.{nan, inf, fin}
use Rattle.paper.specs.declared.Box.{Box}
use Rattle.paper.specs.Outcome.{Outcome, refused, accepted, ◌>>=◌, answered}
use Rattle.paper.specs.Image.{Set}
use Rattle.paper.specs.Sound.{sound_of}
use Rattle.paper.specs.Move
use Rattle.paper.specs.Move.{Migrated, Sizes, migrate_set, migrate_of}
use Rattle.paper.specs.Lookup
use Rattle.paper.specs.Lookup.{Found}
use Rattle.paper.specs.Box
use Rattle.paper.proofs.Meshes.{v4, A, B, twice}
use Rattle.paper.proofs.OwnMeshes.{lone}
use Rattle.paper.proofs.Table.{send}
use Rattle.demands.specs.Programs.{Correct, AlwaysCorrect, CorrectCheck, CorrectLookup, CorrectBox, done_with, exact}
use Rattle.demands.specs.WrongPrograms.{instead, refuses_all, gives, hands_back, moves_once, invents_count, counts_entries, leaves_work, clears_rest, says_sound, lowest_owner, box_from_zero}
use Rattle.demands.proofs.Results.Examples.{B₅, zeros, code}
use Rattle.demands.proofs.Results.Programs.{exact_correct}

-- ---- what the answers are compared by

abbrev moved_count : Outcome Sizes → ℕ
moved_count (refused k p) = 0
moved_count (accepted s) = s.moved

abbrev owner_said : Outcome Found → ℕ
owner_said (refused k p) = 0
owner_said (accepted f) = f.owner

-- the digits of the least x
abbrev least_x : Outcome (Option Box) → ℕ
least_x (refused k p) = 0
least_x (accepted none) = 0
least_x (accepted (some b)) = elim b.least.x [ nan ↦ 0 | inf s ↦ 0 | fin s m e ↦ m ]

-- both triangles of A to part 1: as many bytes and rows as before
abbrev both_to_one : List ℕ
both_to_one = send 2 1 1 ++ send 2 2 1

-- ---- where nothing is changed, the frame of the wrong programs is the right program

pub instead_right : (image list out work : List ℕ) → instead (λ S l m. m) image list out work ≡ exact image list out work
unfolding migrate_of answered
instead_right image list out work = ap (λ (f : Set → Outcome Migrated). done_with (sound_of image >>= f) out work) (fun_ext (λ S. go (migrate_set S list (length out) (length work))))
  where
    go : (o : Outcome Migrated) → answered (λ m. m) o ≡ o
    go (refused k p) = refl
    go (accepted m) = refl

-- ---- the programs that document 01 names

pub refuses_all_wrong : Correct refuses_all → ⊥
unfolding Move.computes
refuses_all_wrong c = let e : ◌≡◌ {A = ℕ} 1 0 = ap code (c A [] (zeros 544) (zeros 11)).answer in omega arith

-- whichever image it is: an empty list gives A back of A and B of B, and byte 8 is the row count of part 0
pub gives_one_wrong : (b : List ℕ) → Correct (gives b) → ⊥
unfolding Move.computes
gives_one_wrong b c =
    let e : A ++ zeros 168 ≡ B = sym (c A [] (zeros 712) (zeros 14)).output ∙ (c B [] (zeros 712) (zeros 14)).output in
    let n : ◌≡◌ {A = ℕ} 11 7 = ap (λ (o : List ℕ). get_or o 8 0) e in
    omega arith

pub gives_a_wrong : Correct (gives A) → ⊥
gives_a_wrong = gives_one_wrong A

pub hands_back_wrong : Correct hands_back → ⊥
unfolding Move.computes
hands_back_wrong c = let e : ◌≡◌ {A = ℕ} 11 0 = ap (λ (o : List ℕ). get_or o 8 0) (c A both_to_one (zeros 544) (zeros 11)).output in omega arith

-- its first call is right
pub moves_once_first : Correct (moves_once 0)
moves_once_first = exact_correct

pub moves_once_wrong : AlwaysCorrect moves_once → ⊥
moves_once_wrong c = hands_back_wrong (c 1)

pub invents_count_wrong : Correct invents_count → ⊥
unfolding Move.computes
invents_count_wrong c = let e : ◌≡◌ {A = ℕ} 7 1 = ap moved_count (c A (send 2 2 1) (zeros 712) (zeros 11)).answer in omega arith

-- triangle 2 of B is in part 1 already
pub counts_entries_wrong : Correct counts_entries → ⊥
unfolding Move.computes
counts_entries_wrong c = let e : ◌≡◌ {A = ℕ} 1 0 = ap moved_count (c B (send 2 2 1) (zeros 712) (zeros 14)).answer in omega arith

-- ---- buffers

pub leaves_work_wrong : Correct leaves_work → ⊥
unfolding Move.computes
leaves_work_wrong c = let e : ◌≡◌ {A = ℕ} 5 0 = ap (λ (o : List ℕ). get_or o 0 0) (c [] [] [] (5 ∷ [])).working in omega arith

pub clears_rest_wrong : Correct clears_rest → ⊥
unfolding Move.computes
clears_rest_wrong c = let e : ◌≡◌ {A = ℕ} 0 9 = ap (λ (o : List ℕ). get_or o 544 0) (c A [] (zeros 544 ++ (9 ∷ [])) (zeros 11)).output in omega arith

-- ---- check, lookup, box

pub says_sound_wrong : CorrectCheck says_sound → ⊥
unfolding Move.computes
says_sound_wrong c = let e : ◌≡◌ {A = ℕ} 0 11 = ap code (c twice).answer in omega arith

-- case 4: vertex 2 is in parts 0 and 1, and 1 owns it
pub lowest_owner_wrong : CorrectLookup lowest_owner → ⊥
unfolding Move.computes Lookup.computes
lowest_owner_wrong c = let e : ◌≡◌ {A = ℕ} 0 1 = ap owner_said (c B₅ 0 2).answer in omega arith

pub box_from_zero_wrong : CorrectBox box_from_zero → ⊥
unfolding Move.computes Box.computes
box_from_zero_wrong c = let e : ◌≡◌ {A = ℕ} 0 1 = ap least_x (c (lone v4) 0).answer in omega arith
