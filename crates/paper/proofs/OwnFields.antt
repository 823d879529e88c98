-- Tables of our own for the check, refusals 7 and 8: what the cases of document 01 leave open and no theorem pins, by computation.
-- docs/PAPER.md names for each definition the table that fails where it is wrong. Assumes nothing.
use mathlib.Core.Path.{◌≡◌, refl}
use mathlib.Core.List.{[], ◌∷◌, ◌++◌}
use lib.ListN.{set}
use Rattle.paper.specs.Move
use Rattle.paper.proofs.Meshes.{one, ent, image_with, v1, v2, v3, e1, B}
use Rattle.paper.proofs.OwnMeshes.{minus_zero, largest, infinity, nan, valued, vertex, lone, bar, tri, tet, first, second}
use Rattle.paper.proofs.Table.{Cases, wrong, check}

-- ---- 7: values and coordinates

abbrev pub values : Cases
values =
    -- 0 to 2: nothing is eight zero bytes
    (check (lone (valued 0 0)), 0 ∷ 1 ∷ 1 ∷ [])
    ∷ (check (lone (valued 0 1)), 7 ∷ 0 ∷ 0 ∷ [])
    ∷ (check (lone (valued 0 minus_zero)), 7 ∷ 0 ∷ 0 ∷ [])
    -- 3 to 5: a whole number is any, also where the bits would be no finite real's
    ∷ (check (lone (valued 1 0)), 0 ∷ 1 ∷ 1 ∷ [])
    ∷ (check (lone (valued 1 nan)), 0 ∷ 1 ∷ 1 ∷ [])
    ∷ (check (lone (valued 1 0xffff_ffff_ffff_ffff)), 0 ∷ 1 ∷ 1 ∷ [])
    -- 6 to 11: a real is finite: 0, minus 0, the least above 0, 1, the largest, and minus that
    ∷ (check (lone (valued 2 0)), 0 ∷ 1 ∷ 1 ∷ [])
    ∷ (check (lone (valued 2 minus_zero)), 0 ∷ 1 ∷ 1 ∷ [])
    ∷ (check (lone (valued 2 1)), 0 ∷ 1 ∷ 1 ∷ [])
    ∷ (check (lone (valued 2 one)), 0 ∷ 1 ∷ 1 ∷ [])
    ∷ (check (lone (valued 2 largest)), 0 ∷ 1 ∷ 1 ∷ [])
    ∷ (check (lone (valued 2 0xffef_ffff_ffff_ffff)), 0 ∷ 1 ∷ 1 ∷ [])
    -- 12 to 16: infinity is the pattern after the largest; minus infinity, NaNs
    ∷ (check (lone (valued 2 infinity)), 7 ∷ 0 ∷ 0 ∷ [])
    ∷ (check (lone (valued 2 0xfff0_0000_0000_0000)), 7 ∷ 0 ∷ 0 ∷ [])
    ∷ (check (lone (valued 2 0x7ff0_0000_0000_0001)), 7 ∷ 0 ∷ 0 ∷ [])
    ∷ (check (lone (valued 2 nan)), 7 ∷ 0 ∷ 0 ∷ [])
    ∷ (check (lone (valued 2 0xffff_ffff_ffff_ffff)), 7 ∷ 0 ∷ 0 ∷ [])
    -- 17, 18: no other kind
    ∷ (check (lone (valued 3 0)), 7 ∷ 0 ∷ 0 ∷ [])
    ∷ (check (lone (valued 255 0)), 7 ∷ 0 ∷ 0 ∷ [])
    -- 19 to 21: finite coordinates
    ∷ (check (lone (vertex 1 largest 0xffef_ffff_ffff_ffff minus_zero)), 0 ∷ 1 ∷ 1 ∷ [])
    ∷ (check (lone (vertex 1 minus_zero largest 1)), 0 ∷ 1 ∷ 1 ∷ [])
    ∷ (check (lone (vertex 1 1 minus_zero largest)), 0 ∷ 1 ∷ 1 ∷ [])
    -- 22 to 27: each of the three
    ∷ (check (lone (vertex 1 infinity 0 0)), 7 ∷ 0 ∷ 0 ∷ [])
    ∷ (check (lone (vertex 1 0 infinity 0)), 7 ∷ 0 ∷ 0 ∷ [])
    ∷ (check (lone (vertex 1 0 0 infinity)), 7 ∷ 0 ∷ 0 ∷ [])
    ∷ (check (lone (vertex 1 nan 0 0)), 7 ∷ 0 ∷ 0 ∷ [])
    ∷ (check (lone (vertex 1 0 0xfff0_0000_0000_0000 0)), 7 ∷ 0 ∷ 0 ∷ [])
    ∷ (check (lone (vertex 1 0 0 0xffff_ffff_ffff_ffff)), 7 ∷ 0 ∷ 0 ∷ [])
    ∷ []

pub values_hold : wrong 0 values ≡ []
unfolding Move.computes
values_hold = refl

-- ---- 7: the other fields

abbrev pub fields : Cases
fields =
    -- 0 to 2: dimension, the zero byte, the owner
    (check (set (lone v1) 16 4), 7 ∷ 0 ∷ 0 ∷ [])
    ∷ (check (set (lone v1) 19 1), 7 ∷ 0 ∷ 0 ∷ [])
    ∷ (check (set (lone v1) 17 1), 7 ∷ 0 ∷ 0 ∷ [])
    -- 3: an owner that is a part and not in the set passes 7
    ∷ (check (set (first v1) 17 1), 12 ∷ 0 ∷ 0 ∷ [])
    -- 4, 5: a residence bit that names no part
    ∷ (check (set (first v1 ++ (0 ∷ 0 ∷ 0 ∷ 0 ∷ [])) 20 5), 7 ∷ 0 ∷ 0 ∷ [])
    ∷ (check (set (second v1 ++ (0 ∷ 0 ∷ 0 ∷ 0 ∷ [])) 24 6), 7 ∷ 1 ∷ 0 ∷ [])
    -- 6 to 8: the own bit
    ∷ (check (set (first v1) 20 2), 7 ∷ 0 ∷ 0 ∷ [])
    ∷ (check (set (second v1) 24 1), 7 ∷ 1 ∷ 0 ∷ [])
    ∷ (check (set (first v1) 20 0), 7 ∷ 0 ∷ 0 ∷ [])
    -- 9 to 14: zeros behind the slots of an edge, a triangle, a tetrahedron: the first and the last
    ∷ (check (set bar 140 1), 7 ∷ 0 ∷ 2 ∷ [])
    ∷ (check (set bar 155 1), 7 ∷ 0 ∷ 2 ∷ [])
    ∷ (check (set tri 336 1), 7 ∷ 0 ∷ 6 ∷ [])
    ∷ (check (set tri 347 1), 7 ∷ 0 ∷ 6 ∷ [])
    ∷ (check (set tet 724 1), 7 ∷ 0 ∷ 14 ∷ [])
    ∷ (check (set tet 731 1), 7 ∷ 0 ∷ 14 ∷ [])
    -- 15, 16: the first by part and then by slot
    ∷ (check (set (set bar 115 1) 67 1), 7 ∷ 0 ∷ 1 ∷ [])
    ∷ (check (set (set B 319 1) 371 1), 7 ∷ 0 ∷ 6 ∷ [])
    -- 17: 7 before 8: rows 0 and 1 are out of order, and row 2 has a dimension of 4
    ∷ (check (set (image_with ((v2 ∷ v1 ∷ v3 ∷ []) ∷ [])) 112 4), 7 ∷ 0 ∷ 2 ∷ [])
    ∷ []

pub fields_hold : wrong 0 fields ≡ []
unfolding Move.computes
fields_hold = refl

-- ---- 8: the order

abbrev pub orders : Cases
orders =
    -- 0, 1: of two the later is at fault; equal names do not ascend
    (check (image_with ((v2 ∷ v1 ∷ []) ∷ [])), 8 ∷ 0 ∷ 1 ∷ [])
    ∷ (check (image_with ((v1 ∷ v1 ∷ []) ∷ [])), 8 ∷ 0 ∷ 1 ∷ [])
    -- 2: by number
    ∷ (check (image_with ((v1 ∷ v3 ∷ v2 ∷ []) ∷ [])), 8 ∷ 0 ∷ 2 ∷ [])
    -- 3, 4: by dimension first
    ∷ (check (image_with ((v1 ∷ v2 ∷ e1 ∷ v3 ∷ []) ∷ [])), 8 ∷ 0 ∷ 3 ∷ [])
    ∷ (check (image_with ((vertex 8 0 0 0 ∷ vertex 9 0 0 0 ∷ ent 1 1 (8 ∷ 9 ∷ []) ∷ []) ∷ [])), 0 ∷ 1 ∷ 3 ∷ [])
    -- 5, 6: any 32-bit number, unsigned
    ∷ (check (image_with ((vertex 0 0 0 0 ∷ v1 ∷ vertex 0xffff_ffff 0 0 0 ∷ []) ∷ [])), 0 ∷ 1 ∷ 3 ∷ [])
    ∷ (check (image_with ((vertex 0x8000_0000 0 0 0 ∷ v1 ∷ []) ∷ [])), 8 ∷ 0 ∷ 1 ∷ [])
    -- 7, 8: in each part by itself
    ∷ (check (image_with ((v3 ∷ []) ∷ (v2 ∷ v1 ∷ []) ∷ [])), 8 ∷ 1 ∷ 1 ∷ [])
    ∷ (check (image_with ((v3 ∷ []) ∷ (v1 ∷ v2 ∷ []) ∷ [])), 0 ∷ 2 ∷ 3 ∷ [])
    -- 9: 8 before 9: the edge in slot 2 names one vertex twice
    ∷ (check (set (image_with ((v1 ∷ v2 ∷ e1 ∷ v3 ∷ []) ∷ [])) 136 0), 8 ∷ 0 ∷ 3 ∷ [])
    ∷ []

pub orders_hold : wrong 0 orders ≡ []
unfolding Move.computes
orders_hold = refl
