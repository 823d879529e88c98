-- Tables of our own for the check, the layout and refusals 1 to 6: what the cases of document 01 leave open and no theorem pins, by computation.
-- docs/PAPER.md names for each definition the table that fails where it is wrong. Assumes nothing.
use Prim.Native.Nat.{ℕ}
use mathlib.Core.Path.{◌≡◌, refl}
use mathlib.Core.List.{List, [], ◌∷◌, ◌++◌}
use lib.ListN.{set, take, replicate}
use Rattle.paper.specs.Move
use Rattle.paper.specs.Mesh.{Entity}
use Rattle.paper.proofs.Meshes.{one, image_with, v1}
use Rattle.paper.proofs.OwnMeshes.{minus_zero, two, vertex, lone}
use Rattle.paper.proofs.Table.{Cases, wrong, check, put}

-- ---- the layout, byte by byte

-- Two parts. Vertex 0x04030201 is in both: in slot 0 of part 0 with edge 7, in slot 1 of part 1 with edge 8.
abbrev shared : Entity
shared = record { dim = 0; number = 0x04030201; kind = 1; value = 0x1817_1615_1413_1211; shape = one ∷ minus_zero ∷ two ∷ [] }

abbrev edge : ℕ → ℕ → ℕ → Entity
edge k i j = record { dim = 1; number = k; kind = 2; value = one; shape = i ∷ j ∷ [] }

abbrev written : List ℕ
written =
    -- mark, version, part count, zeros
    68 ∷ 77 ∷ 80 ∷ 1 ∷ 0 ∷ 2 ∷ 0 ∷ 0
    -- part 0: row count
    ∷ 3 ∷ 0 ∷ 0 ∷ 0
    -- number, dimension, owner, kind, zero
    ∷ 1 ∷ 2 ∷ 3 ∷ 4 ∷ 0 ∷ 0 ∷ 1 ∷ 0
    -- residence set, value
    ∷ 3 ∷ 0 ∷ 0 ∷ 0 ∷ 0 ∷ 0 ∷ 0 ∷ 0
    ∷ 0x11 ∷ 0x12 ∷ 0x13 ∷ 0x14 ∷ 0x15 ∷ 0x16 ∷ 0x17 ∷ 0x18
    -- x, y, z
    ∷ 0 ∷ 0 ∷ 0 ∷ 0 ∷ 0 ∷ 0 ∷ 0xf0 ∷ 0x3f
    ∷ 0 ∷ 0 ∷ 0 ∷ 0 ∷ 0 ∷ 0 ∷ 0 ∷ 0x80
    ∷ 0 ∷ 0 ∷ 0 ∷ 0 ∷ 0 ∷ 0 ∷ 0 ∷ 0x40
    -- its slot in part 1
    ∷ 1 ∷ 0 ∷ 0 ∷ 0
    -- vertex 0xffffffff
    ∷ 255 ∷ 255 ∷ 255 ∷ 255 ∷ 0 ∷ 0 ∷ 0 ∷ 0
    ∷ 1 ∷ 0 ∷ 0 ∷ 0 ∷ 0 ∷ 0 ∷ 0 ∷ 0
    ∷ replicate 32 0
    -- edge 7: kind 2, slots 0 and 1, then zeros
    ++ (7 ∷ 0 ∷ 0 ∷ 0 ∷ 1 ∷ 0 ∷ 2 ∷ 0
    ∷ 1 ∷ 0 ∷ 0 ∷ 0 ∷ 0 ∷ 0 ∷ 0 ∷ 0
    ∷ 0 ∷ 0 ∷ 0 ∷ 0 ∷ 0 ∷ 0 ∷ 0xf0 ∷ 0x3f
    ∷ 0 ∷ 0 ∷ 0 ∷ 0 ∷ 1 ∷ 0 ∷ 0 ∷ 0
    ∷ replicate 16 0)
    -- part 1: row count, vertex 5
    ++ (3 ∷ 0 ∷ 0 ∷ 0
    ∷ 5 ∷ 0 ∷ 0 ∷ 0 ∷ 0 ∷ 1 ∷ 0 ∷ 0
    ∷ 2 ∷ 0 ∷ 0 ∷ 0 ∷ 0 ∷ 0 ∷ 0 ∷ 0
    ∷ replicate 32 0)
    -- the copy, and its slot in part 0
    ++ (1 ∷ 2 ∷ 3 ∷ 4 ∷ 0 ∷ 0 ∷ 1 ∷ 0
    ∷ 3 ∷ 0 ∷ 0 ∷ 0 ∷ 0 ∷ 0 ∷ 0 ∷ 0
    ∷ 0x11 ∷ 0x12 ∷ 0x13 ∷ 0x14 ∷ 0x15 ∷ 0x16 ∷ 0x17 ∷ 0x18
    ∷ 0 ∷ 0 ∷ 0 ∷ 0 ∷ 0 ∷ 0 ∷ 0xf0 ∷ 0x3f
    ∷ 0 ∷ 0 ∷ 0 ∷ 0 ∷ 0 ∷ 0 ∷ 0 ∷ 0x80
    ∷ 0 ∷ 0 ∷ 0 ∷ 0 ∷ 0 ∷ 0 ∷ 0 ∷ 0x40
    ∷ 0 ∷ 0 ∷ 0 ∷ 0
    -- edge 8, owned by part 1
    ∷ 8 ∷ 0 ∷ 0 ∷ 0 ∷ 1 ∷ 1 ∷ 2 ∷ 0
    ∷ 2 ∷ 0 ∷ 0 ∷ 0 ∷ 0 ∷ 0 ∷ 0 ∷ 0
    ∷ 0 ∷ 0 ∷ 0 ∷ 0 ∷ 0 ∷ 0 ∷ 0xf0 ∷ 0x3f
    ∷ 0 ∷ 0 ∷ 0 ∷ 0 ∷ 1 ∷ 0 ∷ 0 ∷ 0
    ∷ replicate 16 0)

abbrev pub layout : Cases
layout =
    -- 0: the image of a set is these bytes
    (
      image_with
          ((shared ∷ vertex 0xffffffff 0 0 0 ∷ edge 7 0x04030201 0xffffffff ∷ []) ∷ (vertex 5 0 0 0 ∷ shared ∷ edge 8 5 0x04030201 ∷ []) ∷ []),
      written,
    )
    -- 1: and they are sound
    ∷ (check written, 0 ∷ 2 ∷ 6 ∷ [])
    ∷ []

pub layout-holds : wrong 0 layout ≡ []
unfolding Move.computes
layout-holds = refl

-- ---- 1 to 6

abbrev pub heads : Cases
heads =
    -- 0, 1: 2 before 3
    (check [], 2 ∷ 0 ∷ 0 ∷ [])
    ∷ (check (0 ∷ 0 ∷ 0 ∷ 0 ∷ 0 ∷ 0 ∷ 0 ∷ []), 2 ∷ 0 ∷ 0 ∷ [])
    -- 2 to 4: the mark
    ∷ (check (set (lone v1) 0 100), 3 ∷ 0 ∷ 0 ∷ [])
    ∷ (check (set (lone v1) 1 109), 3 ∷ 0 ∷ 0 ∷ [])
    ∷ (check (set (lone v1) 2 112), 3 ∷ 0 ∷ 0 ∷ [])
    -- 5: 3 before 4
    ∷ (check (replicate 8 0), 3 ∷ 0 ∷ 0 ∷ [])
    -- 6 to 8: the version has 16 bits
    ∷ (check (set (lone v1) 3 0), 4 ∷ 0 ∷ 0 ∷ [])
    ∷ (check (set (lone v1) 3 2), 4 ∷ 0 ∷ 0 ∷ [])
    ∷ (check (set (lone v1) 4 1), 4 ∷ 0 ∷ 0 ∷ [])
    -- 9: 4 before 5
    ∷ (check (put (lone v1) 3 (2 ∷ 0 ∷ 0 ∷ [])), 4 ∷ 0 ∷ 0 ∷ [])
    -- 10 to 13: the part count, and each zero byte; 5 before 6
    ∷ (check (set (lone v1) 5 0), 5 ∷ 0 ∷ 0 ∷ [])
    ∷ (check (set (lone v1) 5 65), 5 ∷ 0 ∷ 0 ∷ [])
    ∷ (check (set (lone v1) 6 1), 5 ∷ 0 ∷ 0 ∷ [])
    ∷ (check (set (lone v1) 7 1), 5 ∷ 0 ∷ 0 ∷ [])
    -- 14 to 18: a part, a count or a row that is cut, at its end, before its residence set and one byte short
    ∷ (check (set (lone v1) 5 2), 6 ∷ 0 ∷ 0 ∷ [])
    ∷ (check (take 8 (lone v1)), 6 ∷ 0 ∷ 0 ∷ [])
    ∷ (check (take 11 (lone v1)), 6 ∷ 0 ∷ 0 ∷ [])
    ∷ (check (take 27 (lone v1)), 6 ∷ 0 ∷ 0 ∷ [])
    ∷ (check (take 59 (lone v1)), 6 ∷ 0 ∷ 0 ∷ [])
    -- 19 to 21: bytes too many, a row too few and too many
    ∷ (check (lone v1 ++ (0 ∷ [])), 6 ∷ 0 ∷ 0 ∷ [])
    ∷ (check (set (lone v1) 8 0), 6 ∷ 0 ∷ 0 ∷ [])
    ∷ (check (set (lone v1) 8 2), 6 ∷ 0 ∷ 0 ∷ [])
    -- 22: 6 before 7
    ∷ (check (set (lone v1 ++ (0 ∷ [])) 16 4), 6 ∷ 0 ∷ 0 ∷ [])
    -- 23, 24: a row takes 4 bytes for each bit set, whichever bits they are
    ∷ (check (set (lone v1) 25 1), 6 ∷ 0 ∷ 0 ∷ [])
    ∷ (check (set (lone v1) 25 1 ++ (0 ∷ 0 ∷ 0 ∷ 0 ∷ [])), 7 ∷ 0 ∷ 0 ∷ [])
    -- 25, 26: all 64
    ∷ (check (put (lone v1) 20 (replicate 8 255) ++ replicate 251 0), 6 ∷ 0 ∷ 0 ∷ [])
    ∷ (check (put (lone v1) 20 (replicate 8 255) ++ replicate 252 0), 7 ∷ 0 ∷ 0 ∷ [])
    -- 27: a set of 0 takes 48
    ∷ (check (set (lone v1) 20 0), 7 ∷ 0 ∷ 0 ∷ [])
    ∷ []

pub heads_hold : wrong 0 heads ≡ []
unfolding Move.computes
heads_hold = refl
