-- The cases of document 01 that are marked P, "Small meshes to try": one table under one theorem, by computation. Assumes nothing.
use mathlib.Core.Path.{◌≡◌, refl}
use mathlib.Core.List.{[], ◌∷◌, ◌++◌}
use lib.ListN.{length, set, replicate}
use Rattle.paper.specs.Move
use Rattle.paper.specs.Lookup
use Rattle.paper.proofs.Meshes.{image_with, A, B, A_in_1, A₅, twice}
use Rattle.paper.proofs.Table.{Cases, wrong, check, send, move, numbers, image, lookup}

abbrev pub cases : Cases
cases =
    let four = move A₅ (send 2 2 1) in
    let five = move A₅ (send 0 5 1 ++ send 2 2 1) in
    -- 1: A is 544 bytes, 11 rows, and sound
    (length A ∷ check A, 544 ∷ 0 ∷ 2 ∷ 11 ∷ [])
    -- 2: A with triangle 2 sent to part 1 gives B: 712 bytes, 14 rows, 1 moved
    ∷ (numbers (move A (send 2 2 1)), 0 ∷ 712 ∷ 14 ∷ 1 ∷ [])
    ∷ (image (move A (send 2 2 1)), B)
    -- 3: B with triangle 1 sent to part 1: 544 bytes, part 0 empty
    ∷ (numbers (move B (send 2 1 1)), 0 ∷ 544 ∷ 11 ∷ 1 ∷ [])
    ∷ (image (move B (send 2 1 1)), A_in_1)
    -- 4: A plus a lone vertex 5 in part 0, triangle 2 sent to 1: 760 bytes; vertices 2, 3 and edge 3 are owned by 1
    ∷ (numbers four, 0 ∷ 760 ∷ 15 ∷ 1 ∷ [])
    ∷ (lookup (image four) 0 2, 0 ∷ 3 ∷ 1 ∷ [])
    ∷ (lookup (image four) 0 3, 0 ∷ 3 ∷ 1 ∷ [])
    ∷ (lookup (image four) 1 3, 0 ∷ 3 ∷ 1 ∷ [])
    -- 5: as 4, vertex 5 sent to 1 as well: those are owned by 0
    ∷ (numbers five, 0 ∷ 760 ∷ 15 ∷ 2 ∷ [])
    ∷ (lookup (image five) 0 2, 0 ∷ 3 ∷ 0 ∷ [])
    ∷ (lookup (image five) 0 3, 0 ∷ 3 ∷ 0 ∷ [])
    ∷ (lookup (image five) 1 3, 0 ∷ 3 ∷ 0 ∷ [])
    -- 6: one part, no rows: 12 bytes, sound; 64 empty parts: 264 bytes
    ∷ (length (image_with ([] ∷ [])) ∷ check (image_with ([] ∷ [])), 12 ∷ 0 ∷ 1 ∷ 0 ∷ [])
    ∷ (length (image_with (replicate 64 [])) ∷ check (image_with (replicate 64 [])), 264 ∷ 0 ∷ 64 ∷ 0 ∷ [])
    -- 7: B with an empty list: B
    ∷ (numbers (move B []), 0 ∷ 712 ∷ 14 ∷ 0 ∷ [])
    ∷ (image (move B []), B)
    -- 8: B, list naming edge 3: 16 at entry 0; triangle 9: 15; triangle 2 to part 2: 14
    ∷ (numbers (move B (send 1 3 0)), 16 ∷ 0 ∷ 0 ∷ [])
    ∷ (numbers (move B (send 2 9 0)), 15 ∷ 0 ∷ 0 ∷ [])
    ∷ (numbers (move B (send 2 2 2)), 14 ∷ 0 ∷ 0 ∷ [])
    -- 9: B, remote slot of vertex 2 in part 0 set from 0 to 1: 10 at 0 1. The row stands at 60, its one remote slot 48 bytes on
    ∷ (check (set B 108 1), 10 ∷ 0 ∷ 1 ∷ [])
    -- 10: B, owner of edge 3 set to 1 in both parts: 12 at 0 5. The rows stand at 260 and at 516, the owner 5 bytes on
    ∷ (check (set (set B 265 1) 521 1), 12 ∷ 0 ∷ 5 ∷ [])
    -- 11: triangle 1 with its closure whole in both parts, all residence sets 3, copies agreeing: 11 at 0 6
    ∷ (check twice, 11 ∷ 0 ∷ 6 ∷ [])
    ∷ []

pub cases_hold : wrong 0 cases ≡ []
unfolding Move.computes Lookup.computes
cases_hold = refl
