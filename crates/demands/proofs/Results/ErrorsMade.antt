-- The programs with the errors that we have really made are not correct either: for each an input on which it breaks the promise, by computation.
-- Assumes nothing.
use Prim.Native.Nat.{ℕ}
use native.Mathlib.Omega.{arith}
use mathlib.Core.Path.{◌≡◌, refl, ap}
use mathlib.Core.List.{List, ◌++◌}
use lib.ListN.{get_or}
use Rattle.paper.specs.Sound.{check_of}
use Rattle.paper.specs.Move
use Rattle.paper.proofs.Meshes.{A, A₅}
use Rattle.paper.proofs.Table.{send}
use Rattle.demands.specs.Programs.{Correct}
use Rattle.demands.specs.WrongPrograms.{owners_before, counts_big, old_slots, leaves_copy, drops_edges}
use Rattle.demands.proofs.Results.Examples.{zeros, code}

-- ---- the errors that we have really made

-- case 5: the owner of vertex 2 stands at byte 65, in its row of part 0
pub owners_before_wrong : Correct owners_before → ⊥
unfolding Move.computes
owners_before_wrong c =
    let e : ◌≡◌ {A = ℕ} 1 0 = ap (λ (o : List ℕ). get_or o 65 0) (c A₅ (send 0 5 1 ++ send 2 2 1) (zeros 760) (zeros 12)).output in omega arith

-- case 4
pub counts_big_wrong : Correct counts_big → ⊥
unfolding Move.computes
counts_big_wrong c = let e : ◌≡◌ {A = ℕ} 0 1 = ap (λ (o : List ℕ). get_or o 65 0) (c A₅ (send 2 2 1) (zeros 760) (zeros 12)).output in omega arith

-- part 0 is to keep edge 3, vertex 2 and vertex 3, which triangle 1 uses: 7 rows
pub drops_edges_wrong : Correct drops_edges → ⊥
unfolding Move.computes
drops_edges_wrong c = let e : ◌≡◌ {A = ℕ} 4 7 = ap (λ (o : List ℕ). get_or o 8 0) (c A (send 2 2 1) (zeros 712) (zeros 11)).output in omega arith

-- the slot of vertex 3 in part 1 stands at byte 160, in its row of part 0
pub old_slots_wrong : Correct old_slots → ⊥
unfolding Move.computes
old_slots_wrong c = let e : ◌≡◌ {A = ℕ} 0 1 = ap (λ (o : List ℕ). get_or o 160 0) (c A (send 2 2 1) (zeros 712) (zeros 11)).output in omega arith

-- ---- the accident of document 00: triangle 2 is in part 1, and all of A is still in part 0

pub leaves_copy_wrong : Correct leaves_copy → ⊥
unfolding Move.computes
leaves_copy_wrong c = let e : ◌≡◌ {A = ℕ} 11 7 = ap (λ (o : List ℕ). get_or o 8 0) (c A (send 2 2 1) (zeros 1000) (zeros 11)).output in omega arith

-- what it writes is refused under 11
leaves_copy_seen : code (check_of (leaves_copy A (send 2 2 1) (zeros 936) (zeros 11)).out) ≡ 11
unfolding Move.computes
leaves_copy_seen = refl
