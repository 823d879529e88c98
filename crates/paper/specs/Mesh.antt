-- Entities apart from slots (document 01, "When a set is sound"): what a row says of the mesh, the whole mesh, closure, partition objects,
-- simplices and owners. Order, boundary and closure are by name, so that they stay what they are when a slot changes. Assumes nothing.
use Rattle.std.specs.Prelude.{ℕ, zero, suc, ◌+◌, ◌*◌, ◌^◌, Bool, true, not, ◌&&◌, ◌||◌, cond, List, [], ◌∷◌, map, length, get_or, ltb, eqb}
use Rattle.paper.specs.Image
use Rattle.laws.specs.Lists.{every, some?, keep, flat, first_or, pairwise, member, index_of, same, unions}
use Rattle.field.specs.Bytes.{words, longs}
use Rattle.paper.specs.Image.{Row, Set, no_row}

-- An entity: dimension, number, value (kind and bits), and its shape: a vertex's x, y, z as bits, any other's boundary as entity numbers.
pub record Entity : Type 0 where
  pub dim : ℕ
  pub number : ℕ
  pub kind : ℕ
  pub value : ℕ
  pub shape : List ℕ

-- the entities of each part, in the order of the rows
abbrev pub Parts : Type 0
Parts = List (List Entity)

-- An entity is named by its dimension and its number, here as one number, so that names ascend by dimension, then number.
abbrev pub name_of : ℕ → ℕ → ℕ
name_of d k = d * 2 ^ 32 + k

abbrev pub name : Entity → ℕ
name e = name_of e.dim e.number

-- the names of its boundary; a vertex has none
unfoldable pub face_names : ℕ → List ℕ → List ℕ
face_names zero shape = []
face_names (suc d) shape = map (name_of d) shape

unfoldable pub faces : Entity → List ℕ
faces e = face_names e.dim e.shape

-- the same entity with equal value (kind and bits), coordinates (bits) or boundary (as entity numbers)
unfoldable pub same_ent : Entity → Entity → Bool
same_ent e f = eqb (name e) (name f) && eqb e.kind f.kind && eqb e.value f.value && same e.shape f.shape

-- ---- from rows

-- the slots that a body of dimension d names
unfoldable pub slots_of : ℕ → List ℕ → List ℕ
slots_of zero body = []
slots_of (suc d) body = words (suc (suc d)) body

-- the shape of a row among the rows of its part
unfoldable pub shape_of : List Row → ℕ → List ℕ → List ℕ
shape_of rows zero body = longs 3 body
shape_of rows (suc d) body = map (λ s. (get_or rows s no_row).number) (slots_of (suc d) body)

unfoldable pub ent_of : List Row → Row → Entity
ent_of rows r = record { dim = r.dim; number = r.number; kind = r.kind; value = r.value; shape = shape_of rows r.dim r.body }

unfoldable pub parts_of : Set → Parts
parts_of S = map (λ rows. map (ent_of rows) rows) S

-- ---- the whole mesh

-- put in its place by name, unless its name is there
unfoldable pub insert_ent : Entity → List Entity → List Entity
insert_ent e [] = e ∷ []
insert_ent e (f ∷ fs) = cond (ltb (name e) (name f)) (e ∷ f ∷ fs) (cond (eqb (name e) (name f)) (f ∷ fs) (f ∷ insert_ent e fs))

unfoldable pub sort_ents : List Entity → List Entity
sort_ents [] = []
sort_ents (e ∷ es) = insert_ent e (sort_ents es)

-- the entities of all parts, each once, in the order of their names
unfoldable pub mesh_of : Parts → List Entity
mesh_of ps = sort_ents (flat ps)

-- ---- partition objects, looked for over all that is given

-- f has k on its boundary
abbrev pub bounds : ℕ → Entity → Bool
bounds k f = member k (faces f)

-- a partition object is an entity on the boundary of none
unfoldable pub is_object : List Entity → ℕ → Bool
is_object es k = not (some? (bounds k) es)

unfoldable pub holds : List Entity → ℕ → Bool
holds es k = member k (map name es)

-- a name's place in a part
unfoldable pub slot_in : List Entity → ℕ → ℕ
slot_in es k = index_of k (map name es)

-- ---- an entity of es by its name, its vertices, its closure

-- what a name that is not there stands for
abbrev pub no_ent : Entity
no_ent = record { dim = 0; number = 0; kind = 0; value = 0; shape = [] }

unfoldable pub ent_named : List Entity → ℕ → Entity
ent_named es k = first_or no_ent (λ e. eqb k (name e)) es

-- the boundary of the entity of dimension d and number k, as entity numbers
abbrev pub shape_in : List Entity → ℕ → ℕ → List ℕ
shape_in es d k = (ent_named es (name_of d k)).shape

-- the numbers of its vertices, ascending
unfoldable pub vertices : ℕ → List Entity → ℕ → List ℕ
vertices zero es k = k ∷ []
vertices (suc d) es k = unions (map (vertices d es) (shape_in es (suc d) k))

-- the names of its closure: itself and the closures of its boundary
unfoldable pub closure : ℕ → List Entity → ℕ → List ℕ
closure zero es k = name_of 0 k ∷ []
closure (suc d) es k = name_of (suc d) k ∷ flat (map (closure d es) (shape_in es (suc d) k))

-- ---- simplices

-- The faces fs, of dimension d, have the d + 2 vertices vs, and for each of these one face has the others: two vertices, the
-- three pairs of three, the four triples of four.
unfoldable pub faces_of : List Entity → ℕ → List ℕ → List ℕ → Bool
faces_of es d vs fs = eqb (length vs) (d + 2) && every (λ v. some? (λ f. same (vertices d es f) (keep (λ w. not (eqb w v)) vs)) fs) vs

-- each two of the triangles fs share an edge; two that share two have the same three vertices, so where the triples differ it is one
unfoldable pub share_edges : List Entity → List ℕ → Bool
share_edges es fs = pairwise (λ f g. some? (λ e. member e (shape_in es 2 g)) (shape_in es 2 f)) fs

-- an entity of dimension d and number k whose boundary is fs: nothing is asked of a vertex
unfoldable pub simplex : List Entity → ℕ → ℕ → List ℕ → Bool
simplex es zero k fs = true
simplex es (suc d) k fs = faces_of es d (vertices (suc d) es k) fs && (ltb d 2 || share_edges es fs)

-- ---- owners

-- how many partition objects, of any dimension, part p has
unfoldable pub objects_in : Parts → ℕ → ℕ
objects_in ps p = length (keep (λ e. is_object (flat ps) (name e)) (get_or ps p []))

-- Poor to rich: of the parts qs, ascending, the one with the fewest objects, and of equals the first.
unfoldable pub poorest : (ℕ → ℕ) → ℕ → List ℕ → ℕ
poorest c p [] = p
poorest c p (q ∷ qs) = poorest c (cond (ltb (c q) (c p)) q p) qs

-- the owner among the residence parts
unfoldable pub owner_among : Parts → List ℕ → ℕ
owner_among ps [] = 0
owner_among ps (p ∷ qs) = poorest (objects_in ps) p qs

-- opens this module and those below it, for what is to compute
unfoldable pub computes : Unit {0}
unfolding Image.computes face_names faces same_ent slots_of shape_of ent_of parts_of insert_ent sort_ents mesh_of is_object holds slot_in ent_named vertices closure faces_of share_edges simplex objects_in poorest owner_among
computes = tt
