-- Tables of our own for the check, refusals 9 to 12: what the cases of document 01 leave open and no theorem pins, by computation.
-- docs/PAPER.md names for each definition the table that fails where it is wrong. Assumes nothing.
use mathlib.Core.Path.{◌≡◌, refl}
use mathlib.Core.List.{[], ◌∷◌}
use lib.ListN.{set}
use Rattle.paper.specs.Move
use Rattle.paper.specs.Lookup
use Rattle.paper.proofs.Meshes.{one, ent, image_with, v1, v2, v3, v4, v5, e1, e2, e3, t1}
use Rattle.paper.proofs.OwnMeshes.{minus_zero, valued, vertex, bar, tri, tri_over, e6, tet_over, tet, first, second, twin, star, far}
use Rattle.paper.proofs.Table.{Cases, wrong, check, lookup, put}

-- ---- 9: the boundary

abbrev pub boundaries : Cases
boundaries =
    -- 0 to 2: an edge, a triangle, a tetrahedron
    (check bar, 0 ∷ 1 ∷ 3 ∷ [])
    ∷ (check tri, 0 ∷ 1 ∷ 7 ∷ [])
    ∷ (check tet, 0 ∷ 1 ∷ 15 ∷ [])
    -- 3, 4: two entities may have equal boundaries
    ∷ (check (image_with ((v1 ∷ v2 ∷ e1 ∷ ent 1 2 (1 ∷ 2 ∷ []) ∷ []) ∷ [])), 0 ∷ 1 ∷ 4 ∷ [])
    ∷ (check (image_with ((v1 ∷ v2 ∷ v3 ∷ e1 ∷ e2 ∷ e3 ∷ t1 ∷ ent 2 2 (1 ∷ 2 ∷ 3 ∷ []) ∷ []) ∷ [])), 0 ∷ 1 ∷ 8 ∷ [])
    -- 5 to 7: slots ascend strictly
    ∷ (check (set (set bar 132 1) 136 0), 9 ∷ 0 ∷ 2 ∷ [])
    ∷ (check (set bar 136 0), 9 ∷ 0 ∷ 2 ∷ [])
    ∷ (check (set (set tri 328 5) 332 4), 9 ∷ 0 ∷ 6 ∷ [])
    -- 8, 9: there is no row 3, and none at 2 ^ 24 + 1
    ∷ (check (set bar 136 3), 9 ∷ 0 ∷ 2 ∷ [])
    ∷ (check (set bar 139 1), 9 ∷ 0 ∷ 2 ∷ [])
    -- 10 to 12: rows of another dimension: an edge of an edge, a triangle of vertices, and one vertex
    ∷ (check (set bar 136 2), 9 ∷ 0 ∷ 2 ∷ [])
    ∷ (check (put tri 324 (0 ∷ 0 ∷ 0 ∷ 0 ∷ 1 ∷ 0 ∷ 0 ∷ 0 ∷ 2 ∷ [])), 9 ∷ 0 ∷ 6 ∷ [])
    ∷ (check (set tri 324 2), 9 ∷ 0 ∷ 6 ∷ [])
    -- 13: rows of its own part: edge 1 in part 1 names vertices that only part 0 has
    ∷ (check (image_with ((v1 ∷ v2 ∷ []) ∷ (e1 ∷ []) ∷ [])), 9 ∷ 1 ∷ 0 ∷ [])
    -- 14 to 16: three edges that miss a pair, that have four vertices, that have two
    ∷ (check (tri_over e1 e2 (ent 1 3 (1 ∷ 3 ∷ []))), 9 ∷ 0 ∷ 7 ∷ [])
    ∷ (check (tri_over e1 e2 (ent 1 3 (2 ∷ 4 ∷ []))), 9 ∷ 0 ∷ 7 ∷ [])
    ∷ (check (tri_over e1 (ent 1 2 (1 ∷ 2 ∷ [])) (ent 1 3 (1 ∷ 2 ∷ []))), 9 ∷ 0 ∷ 7 ∷ [])
    -- 17: four triangles that miss a triple: two are over vertices 1, 2 and 3
    ∷ (check (tet_over [] (ent 2 3 (1 ∷ 2 ∷ 3 ∷ []))), 9 ∷ 0 ∷ 14 ∷ [])
    -- 18: four triples, but triangles 1 and 3 share two vertices and no edge: edge 7 is over the vertices of edge 1
    ∷ (check (tet_over (ent 1 7 (1 ∷ 2 ∷ []) ∷ []) (ent 2 3 (4 ∷ 6 ∷ 7 ∷ []))), 9 ∷ 0 ∷ 15 ∷ [])
    -- 19: 9 before 10, and the place is in part 1: vertex 1 differs in the parts
    ∷ (check (set (image_with ((v1 ∷ []) ∷ (vertex 1 one 0 0 ∷ v2 ∷ e1 ∷ []) ∷ [])) 192 1), 9 ∷ 1 ∷ 2 ∷ [])
    ∷ []

pub boundaries_hold : wrong 0 boundaries ≡ []
unfolding Move.computes
boundaries_hold = refl

-- ---- 10: the copies

abbrev pub copies : Cases
copies =
    -- 0: where all agrees, an object in two parts is refused only under 11
    (check (twin (valued 2 one) (valued 2 one)), 11 ∷ 0 ∷ 0 ∷ [])
    -- 1 to 4: value kind and bits; minus 0 is not 0
    ∷ (check (twin (valued 0 0) (valued 1 0)), 10 ∷ 0 ∷ 0 ∷ [])
    ∷ (check (twin (valued 1 0) (valued 2 0)), 10 ∷ 0 ∷ 0 ∷ [])
    ∷ (check (twin (valued 1 1) (valued 1 2)), 10 ∷ 0 ∷ 0 ∷ [])
    ∷ (check (twin (valued 2 0) (valued 2 minus_zero)), 10 ∷ 0 ∷ 0 ∷ [])
    -- 5 to 8: coordinates
    ∷ (check (twin v1 (vertex 1 one 0 0)), 10 ∷ 0 ∷ 0 ∷ [])
    ∷ (check (twin v1 (vertex 1 0 one 0)), 10 ∷ 0 ∷ 0 ∷ [])
    ∷ (check (twin v1 (vertex 1 0 0 one)), 10 ∷ 0 ∷ 0 ∷ [])
    ∷ (check (twin v1 (vertex 1 0 0 minus_zero)), 10 ∷ 0 ∷ 0 ∷ [])
    -- 9, 10: boundary as entity numbers: edge 1 names other vertices in part 1; and the same ones in other slots
    ∷ (check (image_with ((v1 ∷ v2 ∷ v3 ∷ e1 ∷ []) ∷ (v1 ∷ v2 ∷ v3 ∷ ent 1 1 (1 ∷ 3 ∷ []) ∷ []) ∷ [])), 10 ∷ 0 ∷ 3 ∷ [])
    ∷ (check (image_with ((v1 ∷ v2 ∷ e1 ∷ []) ∷ (vertex 0 0 0 0 ∷ v1 ∷ v2 ∷ e1 ∷ []) ∷ [])), 11 ∷ 0 ∷ 2 ∷ [])
    -- 11: the same entity: vertex 2 in part 1
    ∷ (check (set (twin v1 v1) 68 2), 10 ∷ 0 ∷ 0 ∷ [])
    -- 12: residence set: of three parts, part 1 has it in parts 1 and 2
    ∷ (check (set (image_with ((v1 ∷ []) ∷ (v1 ∷ []) ∷ [] ∷ [])) 76 6), 10 ∷ 0 ∷ 0 ∷ [])
    -- 13, 14: owner; where both name part 1, all agrees
    ∷ (check (set (twin v1 v1) 73 1), 10 ∷ 0 ∷ 0 ∷ [])
    ∷ (check (set (set (twin v1 v1) 17 1) 73 1), 11 ∷ 0 ∷ 0 ∷ [])
    -- 15, 16: a remote slot out of range, in part 0 and in part 1: the row that is not named back comes first
    ∷ (check (set (twin v1 v1) 60 1), 10 ∷ 0 ∷ 0 ∷ [])
    ∷ (check (set (twin v1 v1) 116 1), 10 ∷ 0 ∷ 0 ∷ [])
    -- 17: every part that holds the entity is in the set: vertex 1 is in part 0 alone and in part 1 alone
    ∷ (check (set (twin v1 v2) 64 1), 10 ∷ 0 ∷ 0 ∷ [])
    -- 18: the place is the first by part and then by slot
    ∷ (check (image_with ((v3 ∷ []) ∷ (v2 ∷ v4 ∷ []) ∷ (vertex 2 0 0 0 ∷ v4 ∷ []) ∷ [])), 10 ∷ 1 ∷ 0 ∷ [])
    -- 19: 10 before 11: vertex 1 is in two parts and agrees, vertex 2 does not
    ∷ (check (image_with ((v1 ∷ v2 ∷ []) ∷ (v1 ∷ vertex 2 0 0 0 ∷ []) ∷ [])), 10 ∷ 0 ∷ 1 ∷ [])
    ∷ []

pub copies_hold : wrong 0 copies ≡ []
unfolding Move.computes
copies_hold = refl

-- ---- 11: the residence

abbrev pub residences : Cases
residences =
    -- 0, 1: an object resides in one part: a vertex, an edge
    (check (twin v1 v1), 11 ∷ 0 ∷ 0 ∷ [])
    ∷ (check (image_with ((v1 ∷ v2 ∷ e1 ∷ []) ∷ (v1 ∷ v2 ∷ e1 ∷ []) ∷ [])), 11 ∷ 0 ∷ 2 ∷ [])
    -- 2, 3: any other entity resides in the union: vertex 2 is in part 1, and what it bounds is not
    ∷ (check (image_with ((v1 ∷ v2 ∷ e1 ∷ []) ∷ (v2 ∷ []) ∷ [])), 11 ∷ 0 ∷ 1 ∷ [])
    ∷ (check (image_with ((v2 ∷ []) ∷ (v1 ∷ v2 ∷ e1 ∷ []) ∷ [])), 11 ∷ 0 ∷ 0 ∷ [])
    -- 4, 5: what it bounds is looked for over all parts: the edges that meet in vertex 1 are in three
    ∷ (check (star [] []), 0 ∷ 3 ∷ 9 ∷ [])
    ∷ (lookup (star [] []) 0 1, 0 ∷ 7 ∷ 0 ∷ [])
    -- 6: 11 before 12: vertex 1 has a wrong owner
    ∷ (check (set (image_with ((v1 ∷ v2 ∷ e1 ∷ []) ∷ (v2 ∷ []) ∷ [])) 17 1), 11 ∷ 0 ∷ 1 ∷ [])
    ∷ []

pub residences_hold : wrong 0 residences ≡ []
unfolding Move.computes Lookup.computes
residences_hold = refl

-- ---- 12: the owner

abbrev pub owners : Cases
owners =
    -- 0 to 2: of equals the smallest; the fewest objects; both
    (lookup (star [] []) 0 1, 0 ∷ 7 ∷ 0 ∷ [])
    ∷ (lookup (star (v5 ∷ []) []) 0 1, 0 ∷ 7 ∷ 1 ∷ [])
    ∷ (lookup (star (v5 ∷ []) (vertex 6 0 0 0 ∷ [])) 0 1, 0 ∷ 7 ∷ 2 ∷ [])
    -- 3: a lone edge counts as one, its vertices do not
    ∷ (lookup (image_with ((v1 ∷ v2 ∷ v5 ∷ vertex 6 0 0 0 ∷ e1 ∷ ent 1 9 (5 ∷ 6 ∷ []) ∷ []) ∷ (v1 ∷ v3 ∷ e2 ∷ []) ∷ [])) 0 1, 0 ∷ 3 ∷ 1 ∷ [])
    -- 4: a triangle with its closure is one object, as an edge is
    ∷ (lookup (image_with ((v1 ∷ v2 ∷ v3 ∷ e1 ∷ e2 ∷ e3 ∷ t1 ∷ []) ∷ (v1 ∷ v4 ∷ e6 ∷ []) ∷ [])) 0 1, 0 ∷ 3 ∷ 0 ∷ [])
    -- 5: any other owner is refused, though all copies agree: the three rows stand at 12, 168 and 324
    ∷ (check (set (set (set (star [] []) 17 1) 173 1) 329 1), 12 ∷ 0 ∷ 0 ∷ [])
    -- 6, 7: in range and not in the set; in the last part
    ∷ (check (set (first v1) 17 1), 12 ∷ 0 ∷ 0 ∷ [])
    ∷ (check (set (second v1) 21 0), 12 ∷ 1 ∷ 0 ∷ [])
    ∷ []

pub owners_hold : wrong 0 owners ≡ []
unfolding Move.computes Lookup.computes
owners_hold = refl

-- ---- 64 parts

abbrev pub many : Cases
many =
    -- 0, 1: the set is bit 63
    (check far, 0 ∷ 64 ∷ 1 ∷ [])
    ∷ (lookup far 0 1, 0 ∷ 9223372036854775808 ∷ 63 ∷ [])
    -- 2, 3: the row stands at 264: bit 62 for bit 63, and owner 64
    ∷ (check (set far 279 64), 7 ∷ 63 ∷ 0 ∷ [])
    ∷ (check (set far 269 64), 7 ∷ 63 ∷ 0 ∷ [])
    ∷ []

pub many_hold : wrong 0 many ≡ []
unfolding Move.computes Lookup.computes
many_hold = refl
