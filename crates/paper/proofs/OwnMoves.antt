-- Tables of our own for migration, lookup and box, refusals 13 to 21: what the cases of document 01 leave open and no theorem pins, by
-- computation. docs/PAPER.md names for each definition the table that fails where it is wrong. Assumes nothing.
use Prim.Native.Nat.{ℕ}
use mathlib.Core.Path.{◌≡◌, refl}
use mathlib.Core.List.{List, [], ◌∷◌, ◌++◌}
use lib.Ieee.{to_bits}
use lib.ListN.{set, take, replicate}
use Rattle.paper.specs.Move
use Rattle.paper.specs.Lookup
use Rattle.paper.specs.Box
use Rattle.paper.specs.Mesh.{Entity}
use Rattle.paper.specs.Move.{migrate_of, sizes_of, out_after, work_after}
use Rattle.paper.proofs.Meshes.{one, ent, image_with, v1, v2, v3, v4, v5, e1, e2, B}
use Rattle.paper.proofs.OwnMeshes.{minus_zero, nan, two, three, minus_one, minus_two, minus_three, valued, vertex, lone, e6, first, second, twin, star, kit, far}
use Rattle.paper.proofs.Table.{Cases, wrong, check, send, move, numbers, image, lookup, box}

-- ---- 13: the list. The objects of `kit` are vertex 5 and edge 1, in part 0 of two

abbrev pub lists : Cases
lists =
    -- 0 to 2: the two zeros, the dimension
    (numbers (move kit (set (send 0 5 1) 6 1)), 13 ∷ 0 ∷ 0 ∷ [])
    ∷ (numbers (move kit (set (send 0 5 1) 7 1)), 13 ∷ 0 ∷ 0 ∷ [])
    ∷ (numbers (move kit (send 4 5 1)), 13 ∷ 0 ∷ 0 ∷ [])
    -- 3 to 6: strictly ascending by dimension, then number: of two out of order it is the later
    ∷ (numbers (move kit (send 0 5 1 ++ send 1 1 1)), 0 ∷ 208 ∷ 4 ∷ 2 ∷ [])
    ∷ (numbers (move kit (send 1 1 1 ++ send 0 5 1)), 13 ∷ 1 ∷ 0 ∷ [])
    ∷ (numbers (move kit (send 0 5 1 ++ send 0 5 1)), 13 ∷ 1 ∷ 0 ∷ [])
    ∷ (numbers (move kit (send 0 1 1 ++ send 0 6 1 ++ send 0 5 1)), 13 ∷ 2 ∷ 0 ∷ [])
    -- 7 to 10: left-over bytes count as the entry after the last whole one, zeros or not
    ∷ (numbers (move kit (0 ∷ [])), 13 ∷ 0 ∷ 0 ∷ [])
    ∷ (numbers (move kit (take 7 (send 0 5 1))), 13 ∷ 0 ∷ 0 ∷ [])
    ∷ (numbers (move kit (send 0 5 1 ++ (0 ∷ 0 ∷ 0 ∷ []))), 13 ∷ 1 ∷ 0 ∷ [])
    ∷ (numbers (move kit (send 0 5 1 ++ take 7 (send 1 1 1))), 13 ∷ 1 ∷ 0 ∷ [])
    -- 11: they come last
    ∷ (numbers (move kit (set (send 0 5 1) 6 1 ++ (0 ∷ []))), 13 ∷ 0 ∷ 0 ∷ [])
    ∷ []

pub lists_hold : wrong 0 lists ≡ []
unfolding Move.computes
lists_hold = refl

-- ---- 14 to 19: all entries pass one number before any is judged under the next

abbrev pub turns : Cases
turns =
    -- 0: 12 before 13
    (numbers (move (set kit 17 1) (0 ∷ [])), 12 ∷ 0 ∷ 0 ∷ [])
    -- 1: 13 before 14
    ∷ (numbers (move kit (send 0 5 9 ++ send 4 0 0)), 13 ∷ 1 ∷ 0 ∷ [])
    -- 2, 3: part 1 is the last; 14 before 15
    ∷ (numbers (move kit (send 0 5 2)), 14 ∷ 0 ∷ 0 ∷ [])
    ∷ (numbers (move kit (send 0 4 0 ++ send 0 5 2)), 14 ∷ 1 ∷ 0 ∷ [])
    -- 4, 5: edge 1 and triangle 1 are two entities; 15 before 16
    ∷ (numbers (move kit (send 2 1 0)), 15 ∷ 0 ∷ 0 ∷ [])
    ∷ (numbers (move kit (send 0 1 0 ++ send 0 4 0)), 15 ∷ 1 ∷ 0 ∷ [])
    -- 6 to 8: vertex 2 bounds edge 1; 16 before 17
    ∷ (numbers (move kit (send 0 2 1)), 16 ∷ 0 ∷ 0 ∷ [])
    ∷ (numbers (migrate_of kit (send 0 5 1 ++ send 1 1 1) 208 4), 0 ∷ 208 ∷ 4 ∷ 2 ∷ [])
    ∷ (numbers (migrate_of kit (send 0 2 1) 0 0), 16 ∷ 0 ∷ 0 ∷ [])
    -- 9, 10: 17 before 19
    ∷ (numbers (migrate_of kit (send 0 5 1) 0 3), 17 ∷ 0 ∷ 0 ∷ [])
    ∷ (numbers (migrate_of kit (send 0 5 1) 207 4), 19 ∷ 0 ∷ 0 ∷ [])
    -- 11 to 13: also with an empty list
    ∷ (numbers (migrate_of kit [] 208 3), 17 ∷ 0 ∷ 0 ∷ [])
    ∷ (numbers (migrate_of kit [] 207 4), 19 ∷ 0 ∷ 0 ∷ [])
    ∷ (numbers (migrate_of kit [] 208 4), 0 ∷ 208 ∷ 4 ∷ 0 ∷ [])
    ∷ []

pub turns_hold : wrong 0 turns ≡ []
unfolding Move.computes
turns_hold = refl

-- ---- the move

abbrev pub moves : Cases
moves =
    -- 0: a lone edge goes with its vertices, the lone vertex stays
    (image (move kit (send 1 1 1)), image_with ((v5 ∷ []) ∷ (v1 ∷ v2 ∷ e1 ∷ []) ∷ []))
    -- 1: one of two edges that share a vertex goes: that vertex is then in both parts
    ∷ (image (move (image_with ((v1 ∷ v2 ∷ v3 ∷ e1 ∷ e2 ∷ []) ∷ [] ∷ [])) (send 1 2 1)), image_with ((v1 ∷ v2 ∷ e1 ∷ []) ∷ (v1 ∷ v3 ∷ e2 ∷ []) ∷ []))
    -- 2: of two entries, one of which names the present part, one moves
    ∷ (numbers (move kit (send 0 5 0 ++ send 1 1 1)), 0 ∷ 208 ∷ 4 ∷ 1 ∷ [])
    -- 3 to 5: values and coordinates go over bit for bit: minus 0, and a whole number with the bits of a NaN
    ∷ (image (move (first (vertex 1 minus_zero 0 minus_zero)) (send 0 1 1)), second (vertex 1 minus_zero 0 minus_zero))
    ∷ (image (move (first (valued 2 minus_zero)) (send 0 1 1)), second (valued 2 minus_zero))
    ∷ (image (move (first (valued 1 nan)) (send 0 1 1)), second (valued 1 nan))
    -- 6: owners are counted after the move: vertex 5 goes to part 1, so part 0 is the poorer
    ∷ (lookup (image (move (star (v5 ∷ []) []) (send 0 5 1))) 0 1, 0 ∷ 7 ∷ 0 ∷ [])
    -- 7: three swap places around
    ∷ (image (move (star [] []) (send 1 1 1 ++ send 1 2 2 ++ send 1 6 0)), image_with ((v1 ∷ v4 ∷ e6 ∷ []) ∷ (v1 ∷ v2 ∷ e1 ∷ []) ∷ (v1 ∷ v3 ∷ e2 ∷ []) ∷ []))
    -- 8: from part 63 of 64 to part 0
    ∷ (image (move far (send 0 1 0)), image_with ((v1 ∷ []) ∷ replicate 63 []))
    -- 9: what is made is sound
    ∷ (check (image (move far (send 0 1 0))), 0 ∷ 64 ∷ 1 ∷ [])
    ∷ []

pub moves_hold : wrong 0 moves ≡ []
unfolding Move.computes Lookup.computes
moves_hold = refl

-- ---- the buffers afterwards

abbrev pub buffers : Cases
buffers =
    -- 0: the image, and output bytes past it unchanged
    (out_after (migrate_of kit (send 0 5 1) 211 4) (replicate 208 7 ++ (1 ∷ 2 ∷ 3 ∷ [])), image (move kit (send 0 5 1)) ++ (1 ∷ 2 ∷ 3 ∷ []))
    -- 1, 2: on a refusal as it came: 16, and 19
    ∷ (out_after (migrate_of kit (send 0 2 1) 4 4) (9 ∷ 8 ∷ 7 ∷ 6 ∷ []), 9 ∷ 8 ∷ 7 ∷ 6 ∷ [])
    ∷ (out_after (migrate_of kit (send 0 5 1) 4 4) (9 ∷ 8 ∷ 7 ∷ 6 ∷ []), 9 ∷ 8 ∷ 7 ∷ 6 ∷ [])
    -- 3: the working buffer
    ∷ (work_after (9 ∷ 8 ∷ 7 ∷ []), 0 ∷ 0 ∷ 0 ∷ [])
    -- 4: the answer's numbers
    ∷ (let s = sizes_of (record { image = 5 ∷ 6 ∷ []; rows = 3; objects_moved = 4 }) in s.length ∷ s.rows ∷ s.moved ∷ [], 2 ∷ 3 ∷ 4 ∷ [])
    ∷ []

pub buffers_hold : wrong 0 buffers ≡ []
unfolding Move.computes
buffers_hold = refl

-- ---- 21: lookup

abbrev pub lookups : Cases
lookups =
    -- 0 to 2: an entity of one part, of both, of the last
    (lookup B 0 1, 0 ∷ 1 ∷ 0 ∷ [])
    ∷ (lookup B 1 3, 0 ∷ 3 ∷ 0 ∷ [])
    ∷ (lookup B 2 2, 0 ∷ 2 ∷ 1 ∷ [])
    -- 3 to 6: no such number, dimension, or either; a dimension above 3
    ∷ (lookup B 0 5, 21 ∷ 0 ∷ 0 ∷ [])
    ∷ (lookup B 3 1, 21 ∷ 0 ∷ 0 ∷ [])
    ∷ (lookup B 0 0, 21 ∷ 0 ∷ 0 ∷ [])
    ∷ (lookup B 4 1, 21 ∷ 0 ∷ 0 ∷ [])
    -- 7: 1 to 12 come first
    ∷ (lookup (set B 17 1) 4 1, 12 ∷ 0 ∷ 0 ∷ [])
    ∷ []

pub lookups_hold : wrong 0 lookups ≡ []
unfolding Lookup.computes Move.computes
lookups_hold = refl

-- ---- 20: box

-- vertices in one part
abbrev cloud : List Entity → List ℕ
cloud vs = image_with (vs ∷ [])

abbrev pub boxes : Cases
boxes =
    -- 0 to 2: started from the first vertex and not at zero
    (box (lone (vertex 1 one two three)) 0, 0 ∷ one ∷ two ∷ three ∷ one ∷ two ∷ three ∷ [])
    ∷ (box (cloud (vertex 1 three two one ∷ vertex 2 one three two ∷ [])) 0, 0 ∷ one ∷ two ∷ one ∷ three ∷ three ∷ two ∷ [])
    ∷ (
      box (cloud (vertex 1 minus_one minus_two minus_three ∷ vertex 2 minus_two minus_three minus_one ∷ [])) 0,
      0 ∷ minus_two ∷ minus_three ∷ minus_three ∷ minus_one ∷ minus_two ∷ minus_one ∷ [],
    )
    -- 3: each of the six from another vertex
    ∷ (
      box
          (cloud
          (vertex 1 minus_one 0 0 ∷ vertex 2 0 minus_two 0 ∷ vertex 3 0 0 minus_three ∷ vertex 4 one 0 0 ∷ vertex 5 0 two 0 ∷ vertex 6 0 0 three ∷ []))
          0,
      0 ∷ minus_one ∷ minus_two ∷ minus_three ∷ one ∷ two ∷ three ∷ [],
    )
    -- 4 to 6: minus 0 equals 0, so the earlier bits stay, each of the six by itself
    ∷ (box (cloud (vertex 1 minus_zero 0 minus_zero ∷ vertex 2 0 minus_zero 0 ∷ [])) 0, 0 ∷ minus_zero ∷ 0 ∷ minus_zero ∷ minus_zero ∷ 0 ∷ minus_zero ∷ [])
    ∷ (box (cloud (vertex 1 0 minus_zero 0 ∷ vertex 2 minus_zero 0 minus_zero ∷ [])) 0, 0 ∷ 0 ∷ minus_zero ∷ 0 ∷ 0 ∷ minus_zero ∷ 0 ∷ [])
    ∷ (
      box (cloud (vertex 1 one minus_one 0 ∷ vertex 2 minus_zero 0 minus_zero ∷ vertex 3 0 minus_zero one ∷ [])) 0,
      0 ∷ minus_zero ∷ minus_one ∷ 0 ∷ one ∷ 0 ∷ one ∷ [],
    )
    -- 7: only vertices: an edge's body is no point
    ∷ (box (cloud (v2 ∷ v4 ∷ ent 1 1 (2 ∷ 4 ∷ []) ∷ [])) 0, 0 ∷ one ∷ 0 ∷ 0 ∷ one ∷ one ∷ 0 ∷ [])
    -- 8 to 10: of the part that is asked
    ∷ (box (twin v1 v2) 0, 0 ∷ 0 ∷ 0 ∷ 0 ∷ 0 ∷ 0 ∷ 0 ∷ [])
    ∷ (box (twin v1 v2) 1, 0 ∷ one ∷ 0 ∷ 0 ∷ one ∷ 0 ∷ 0 ∷ [])
    ∷ (box (first v2) 1, 0 ∷ [])
    -- 11: there is no part 2
    ∷ (box (first v2) 2, 20 ∷ 0 ∷ 0 ∷ [])
    -- 12: 1 to 12 come first
    ∷ (box (set (first v2) 17 1) 2, 12 ∷ 0 ∷ 0 ∷ [])
    ∷ []

pub boxes_hold : wrong 0 boxes ≡ []
unfolding Box.computes Move.computes to_bits
boxes_hold = refl
