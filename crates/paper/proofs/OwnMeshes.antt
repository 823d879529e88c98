-- Small images for the tables of our own: as few rows as a rule needs, so that many cases stay quick. Assumes nothing.
-- In an image of one part, row s stands at 12 + 48 s; its dimension is 4 bytes on, owner 5, kind 6, the zero byte 7, residence set 8,
-- value 16, body 24.
use Prim.Native.Nat.{ℕ}
use mathlib.Core.List.{List, [], ◌∷◌, ◌++◌}
use lib.ListN.{replicate}
use Rattle.paper.specs.Mesh.{Entity}
use Rattle.paper.proofs.Meshes.{ent, image_with, v1, v2, v3, v4, v5, e1, e2, e3, e4, e5, t1, t2}

-- ---- bits of a f64

abbrev pub minus_zero : ℕ
minus_zero = 0x8000_0000_0000_0000

abbrev pub largest : ℕ
largest = 0x7fef_ffff_ffff_ffff

abbrev pub infinity : ℕ
infinity = 0x7ff0_0000_0000_0000

abbrev pub nan : ℕ
nan = 0x7ff8_0000_0000_0000

-- 2.0 and 3.0, and minus 1.0, 2.0 and 3.0
abbrev pub two : ℕ
two = 0x4000_0000_0000_0000

abbrev pub three : ℕ
three = 0x4008_0000_0000_0000

abbrev pub minus_one : ℕ
minus_one = 0xbff0_0000_0000_0000

abbrev pub minus_two : ℕ
minus_two = 0xc000_0000_0000_0000

abbrev pub minus_three : ℕ
minus_three = 0xc008_0000_0000_0000

-- ---- vertices

-- vertex 1 with a value, at (0,0,0)
abbrev pub valued : ℕ → ℕ → Entity
valued kind value = record { dim = 0; number = 1; kind = kind; value = value; shape = 0 ∷ 0 ∷ 0 ∷ [] }

-- vertex k at (x,y,z)
abbrev pub vertex : ℕ → ℕ → ℕ → ℕ → Entity
vertex k x y z = ent 0 k (x ∷ y ∷ z ∷ [])

-- ---- images of one part

-- one row, which stands at 12: 60 bytes
abbrev pub lone : Entity → List ℕ
lone e = image_with ((e ∷ []) ∷ [])

-- an edge, which stands at 108, its slots at 132
abbrev pub bar : List ℕ
bar = image_with ((v1 ∷ v2 ∷ e1 ∷ []) ∷ [])

-- a triangle, which stands at 300, its slots at 324
abbrev pub tri : List ℕ
tri = image_with ((v1 ∷ v2 ∷ v3 ∷ e1 ∷ e2 ∷ e3 ∷ t1 ∷ []) ∷ [])

-- a triangle over these three edges
abbrev pub tri_over : Entity → Entity → Entity → List ℕ
tri_over a b c = image_with ((v1 ∷ v2 ∷ v3 ∷ v4 ∷ a ∷ b ∷ c ∷ t1 ∷ []) ∷ [])

abbrev pub e6 : Entity
e6 = ent 1 6 (1 ∷ 4 ∷ [])

abbrev pub t3 : Entity
t3 = ent 2 3 (1 ∷ 4 ∷ 6 ∷ [])

abbrev pub t4 : Entity
t4 = ent 2 4 (2 ∷ 5 ∷ 6 ∷ [])

-- a tetrahedron over edges 1 to 6, edges more, and triangles 1, 2, c and 4
abbrev pub tet_over : List Entity → Entity → List ℕ
tet_over more c = image_with ((v1 ∷ v2 ∷ v3 ∷ v4 ∷ e1 ∷ e2 ∷ e3 ∷ e4 ∷ e5 ∷ e6 ∷ more ++ (t1 ∷ t2 ∷ c ∷ t4 ∷ ent 3 1 (1 ∷ 2 ∷ 3 ∷ 4 ∷ []) ∷ [])) ∷ [])

-- a tetrahedron, which stands at 684, its slots at 708
abbrev pub tet : List ℕ
tet = tet_over [] t3

-- ---- images of more parts

-- one row in part 0 of two, which stands at 12
abbrev pub first : Entity → List ℕ
first e = image_with ((e ∷ []) ∷ [] ∷ [])

-- one row in part 1 of two, which stands at 16
abbrev pub second : Entity → List ℕ
second e = image_with ([] ∷ (e ∷ []) ∷ [])

-- a row in each of two parts, at 12 and at 68 where they have one name: each then has one remote slot, at 60 and at 116
abbrev pub twin : Entity → Entity → List ℕ
twin e f = image_with ((e ∷ []) ∷ (f ∷ []) ∷ [])

-- three edges that meet in vertex 1, one in each of three parts, and more objects in parts 0 and 1
abbrev pub star : List Entity → List Entity → List ℕ
star more more' = image_with ((v1 ∷ v2 ∷ more ++ (e1 ∷ [])) ∷ (v1 ∷ v3 ∷ more' ++ (e2 ∷ [])) ∷ (v1 ∷ v4 ∷ e6 ∷ []) ∷ [])

-- edge 1 and the lone vertex 5 in part 0 of two
abbrev pub kit : List ℕ
kit = image_with ((v1 ∷ v2 ∷ v5 ∷ e1 ∷ []) ∷ [] ∷ [])

-- one vertex in part 63 of 64
abbrev pub far : List ℕ
far = image_with (replicate 63 [] ++ ((v1 ∷ []) ∷ []))
