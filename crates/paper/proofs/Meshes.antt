-- The meshes of document 01, "Small meshes to try", and their images, for the tables of cases. Assumes nothing.
use Prim.Native.Nat.{ℕ}
use mathlib.Core.List.{List, [], ◌∷◌}
use Rattle.paper.specs.Image.{image_of}
use Rattle.paper.specs.Mesh.{Entity, Parts}
use Rattle.paper.specs.Placement.{rows_for}

-- the bits of 1.0
abbrev pub one : ℕ
one = 0x3ff0_0000_0000_0000

-- an entity without a value: dimension, number, and its coordinates or the numbers of its boundary
abbrev pub ent : ℕ → ℕ → List ℕ → Entity
ent d k shape = record { dim = d; number = k; kind = 0; value = 0; shape = shape }

-- ---- mesh A

abbrev pub v1 : Entity
v1 = ent 0 1 (0 ∷ 0 ∷ 0 ∷ [])

abbrev pub v2 : Entity
v2 = ent 0 2 (one ∷ 0 ∷ 0 ∷ [])

abbrev pub v3 : Entity
v3 = ent 0 3 (0 ∷ one ∷ 0 ∷ [])

abbrev pub v4 : Entity
v4 = ent 0 4 (one ∷ one ∷ 0 ∷ [])

abbrev pub e1 : Entity
e1 = ent 1 1 (1 ∷ 2 ∷ [])

abbrev pub e2 : Entity
e2 = ent 1 2 (1 ∷ 3 ∷ [])

abbrev pub e3 : Entity
e3 = ent 1 3 (2 ∷ 3 ∷ [])

abbrev pub e4 : Entity
e4 = ent 1 4 (2 ∷ 4 ∷ [])

abbrev pub e5 : Entity
e5 = ent 1 5 (3 ∷ 4 ∷ [])

abbrev pub t1 : Entity
t1 = ent 2 1 (1 ∷ 2 ∷ 3 ∷ [])

abbrev pub t2 : Entity
t2 = ent 2 2 (3 ∷ 4 ∷ 5 ∷ [])

-- the lone vertex of case 4
abbrev pub v5 : Entity
v5 = ent 0 5 (0 ∷ 0 ∷ one ∷ [])

-- ---- images

-- The image whose parts hold these entities. Residence sets, owners and slots are worked out from the parts; that an entity's boundary
-- is there, or that two copies of it agree, is not asked, so this makes unsound images too.
abbrev pub image_with : Parts → List ℕ
image_with ps = image_of (rows_for ps)

-- mesh A in two parts, all in part 0
abbrev pub A : List ℕ
A = image_with ((v1 ∷ v2 ∷ v3 ∷ v4 ∷ e1 ∷ e2 ∷ e3 ∷ e4 ∷ e5 ∷ t1 ∷ t2 ∷ []) ∷ [] ∷ [])

-- mesh A, triangle 1 in part 0 and triangle 2 in part 1
abbrev pub B : List ℕ
B = image_with ((v1 ∷ v2 ∷ v3 ∷ e1 ∷ e2 ∷ e3 ∷ t1 ∷ []) ∷ (v2 ∷ v3 ∷ v4 ∷ e3 ∷ e4 ∷ e5 ∷ t2 ∷ []) ∷ [])

-- mesh A whole in part 1
abbrev pub A_in_1 : List ℕ
A_in_1 = image_with ([] ∷ (v1 ∷ v2 ∷ v3 ∷ v4 ∷ e1 ∷ e2 ∷ e3 ∷ e4 ∷ e5 ∷ t1 ∷ t2 ∷ []) ∷ [])

-- A and the lone vertex 5
abbrev pub A₅ : List ℕ
A₅ = image_with ((v1 ∷ v2 ∷ v3 ∷ v4 ∷ v5 ∷ e1 ∷ e2 ∷ e3 ∷ e4 ∷ e5 ∷ t1 ∷ t2 ∷ []) ∷ [] ∷ [])

-- triangle 1 with its closure whole in both parts: all residence sets are 3 and the copies agree
abbrev pub twice : List ℕ
twice = image_with ((v1 ∷ v2 ∷ v3 ∷ e1 ∷ e2 ∷ e3 ∷ t1 ∷ []) ∷ (v1 ∷ v2 ∷ v3 ∷ e1 ∷ e2 ∷ e3 ∷ t1 ∷ []) ∷ [])
