-- A correct program's calls are a run, so what is said of runs is said of something, and of a program that is not correct at every call some
-- calls are no run. There is no other run: what is lent decides every answer and every byte. Assumes nothing.
use Prim.Native.Nat.{ℕ, suc}
use native.Mathlib.Omega.{arith}
use mathlib.Core.Path.{◌≡◌, refl, sym, ap, ◌∙◌}
use mathlib.Core.List.{List, [], ◌∷◌, ◌++◌, map}
use lib.ListN.{get_or}
use Rattle.paper.specs.Move
use Rattle.paper.proofs.Meshes.{A}
use Rattle.paper.proofs.Table.{send}
use Rattle.demands.specs.Programs.{Migrator, AlwaysCorrect, exact}
use Rattle.demands.specs.WrongPrograms.{moves_once}
use Rattle.demands.proofs.Results.Examples.{zeros}
use Rattle.demands.proofs.Results.Unique.{migrates_one}
use Rattle.demands.proofs.Results.Programs.{exact_correct}
use Rattle.calls.specs.Calls.{Call, CallKept, image_left, held, Run}
use Rattle.calls.specs.Programs.{Lent, lent, call_by, calls_by}

pub correct_runs : (f : ℕ → Migrator) → AlwaysCorrect f → (i : ℕ) (b : List ℕ) (ls : List Lent) → Run b (calls_by f i b ls)
unfolding Run calls_by
correct_runs f right i b [] = tt
correct_runs f right i b (l ∷ ls) = (right i b l.list l.out l.work, correct_runs f right (suc i) (held b (call_by (f i) b l)) ls)

pub runs_correct : (f : ℕ → Migrator) → ((i : ℕ) (b : List ℕ) (ls : List Lent) → Run b (calls_by f i b ls)) → AlwaysCorrect f
unfolding Run calls_by
runs_correct f runs i image list out work = (runs i image (record { list = list; out = out; work = work } ∷ [])).0

-- ---- one run only

one_call : (b : List ℕ) (c : Call) → CallKept b c → c ≡ call_by exact b (lent c)
one_call b c k =
    let w = migrates_one k (exact_correct b c.list c.out c.work) in
    λ i. record { list = c.list; out = c.out; work = c.work; answer = w.0 i; out' = w.1 i; work' = w.2 i }

only_run : (i : ℕ) (b : List ℕ) (cs : List Call) → Run b cs → cs ≡ calls_by (λ _. exact) i b (map lent cs)
unfolding Run calls_by
only_run i b [] r = refl
only_run i b (c ∷ cs) r =
    ap (λ (rest : List Call). c ∷ rest) (only_run (suc i) (held b c) cs r.1)
    ∙ ap (λ (d : Call). d ∷ calls_by (λ _. exact) (suc i) (held b d) (map lent cs)) (one_call b c r.0)

-- two runs from one image that are lent the same are the same: answers, buffers and images held
pub same_lent_same_run : (b : List ℕ) (cs₁ cs₂ : List Call) → Run b cs₁ → Run b cs₂ → map lent cs₁ ≡ map lent cs₂ → cs₁ ≡ cs₂
same_lent_same_run b cs₁ cs₂ r₁ r₂ e = only_run 0 b cs₁ r₁ ∙ ap (calls_by (λ _. exact) 0 b) e ∙ sym (only_run 0 b cs₂ r₂)

-- ---- a program that moves on the first call and returns its input from then on

-- an empty list, which gives A again, and then both triangles of A to part 1
abbrev two_calls : List Lent
two_calls = record { list = []; out = zeros 544; work = zeros 11 } ∷ record { list = send 2 1 1 ++ send 2 2 1; out = zeros 544; work = zeros 11 } ∷ []

-- byte 8 is the row count of part 0
pub moves_once_no_run : Run A (calls_by moves_once 0 A two_calls) → ⊥
unfolding Move.computes Run calls_by image_left
moves_once_no_run r = let e : ◌≡◌ {A = ℕ} 11 0 = ap (λ (o : List ℕ). get_or o 8 0) r.1.0.output in omega arith
