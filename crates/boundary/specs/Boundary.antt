-- Rule 9 by slots: which rows a row names, by the tables of an image, and faces, each by its vertices, that bound one simplex.
-- Assumes nothing.
use Rattle.std.specs.Prelude.{ℕ, ◌+◌, ◌-◌, ◌/◌, ◌^◌, ◌≤◌, ◌<◌, ◌≡◌, Bool, not, ◌&&◌, List, [], map, length, get_or, T, eqb, ltb}
use Rattle.laws.specs.Lists.{In, every, some?, keep, same, unions, ascending, member}
use Rattle.paper.specs.Image.{Row, no_row}
use Rattle.paper.specs.Mesh.{slots_of}
use Rattle.index.specs.Index.{set_in, Indexed, Named}
use Rattle.paper.specs.declared.Rule.TheVariants.{Fields, Order, Boundary}
use Rattle.demands.specs.Passed.{Passed, PassedBefore}

-- ---- faces by their vertices

-- all but v
abbrev pub others : ℕ → List ℕ → List ℕ
others v vs = keep (λ w. not (eqb w v)) vs

-- for each of the vertices vs one of the faces has the others
unfoldable pub each_faced : List ℕ → List (List ℕ) → Bool
each_faced vs fs = every (λ v. some? (λ f. same f (others v vs)) fs) vs

-- the faces are those of one simplex of k vertices
unfoldable pub faces_fit : ℕ → List (List ℕ) → Bool
faces_fit k fs = eqb (length (unions fs)) k && each_faced (unions fs) fs

-- two lists have a member in common
unfoldable pub shares : List ℕ → List ℕ → Bool
shares fs gs = some? (λ e. member e gs) fs

-- the least of the first vertices of n faces
pub record LowestAt (fs : List (List ℕ)) (n v : ℕ) : Type 0 where
  pub below : (i : ℕ) → i < n → v ≤ get_or (get_or fs i []) 0 0
  pub greatest : (u : ℕ) → ((i : ℕ) → i < n → u ≤ get_or (get_or fs i []) 0 0) → u ≤ v

-- the greatest of their vertices at place k, and 0 where there are none
pub record HighestAt (fs : List (List ℕ)) (n k v : ℕ) : Type 0 where
  pub above : (i : ℕ) → i < n → get_or (get_or fs i []) k 0 ≤ v
  pub least : (u : ℕ) → ((i : ℕ) → i < n → get_or (get_or fs i []) k 0 ≤ u) → v ≤ u

-- the only vertices that n faces of m vertices can be those of one simplex of
pub record CornersOf (fs : List (List ℕ)) (n m : ℕ) (vs : List ℕ) : Type 0 where
  pub first : LowestAt fs n (get_or vs 0 0)
  pub others : (k : ℕ) → k < m → HighestAt fs n k (get_or vs (k + 1) 0)

-- ---- the rows of a part

-- the slots that the row at slot s names, as one of dimension d
abbrev pub faces_at : List Row → ℕ → ℕ → List ℕ
faces_at rows d s = slots_of d (get_or rows s no_row).body

-- the vertices of a triangle, by those of its edges
unfoldable pub corners_below : List Row → ℕ → List ℕ
corners_below rows t = unions (map (faces_at rows 1) (faces_at rows 2 t))

-- rows of dimension d, in ascending slots
unfoldable pub faces_stand : List Row → ℕ → List ℕ → Bool
faces_stand rows d fs = every (λ f. ltb f (length rows) && eqb (get_or rows f no_row).dim d) fs && ascending fs

-- ---- by the tables

-- slot f of part p holds a row of dimension d
unfoldable pub face_keyed : List ℕ → List ℕ → ℕ → ℕ → ℕ → Bool
face_keyed starts keys p d f = ltb f (get_or starts (p + 1) 0 - get_or starts p 0) && eqb (get_or keys (get_or starts p 0 + f) 0 / 2 ^ 32) d

-- the rows of part p have their keys
pub record PartKeyed (starts keys : List ℕ) (p : ℕ) : Type 0 where
  pub there : p + 1 < length starts
  pub from : get_or starts p 0 ≤ get_or starts (p + 1) 0
  pub upto : get_or starts (p + 1) 0 ≤ length keys

unfoldable pub faces_keyed : List ℕ → List ℕ → ℕ → ℕ → List ℕ → Bool
faces_keyed starts keys p d fs = every (face_keyed starts keys p d) fs && ascending fs

-- ---- where a row is judged

-- the tables are the index of an image, in whose part p slot s is there
pub record RowThere (b offs starts : List ℕ) (p s : ℕ) : Type 0 where
  pub index : Indexed b offs starts (length (set_in b))
  pub here : s < length (get_or (set_in b) p [])

-- each of the slots fs is there
abbrev pub RowsThere : (b offs starts : List ℕ) (p : ℕ) (fs : List ℕ) → Type 0
RowsThere b offs starts p fs = (f : ℕ) → In f fs → RowThere b offs starts p f

-- slot t holds a triangle: its edges are there, and they fit
pub record TriangleThere (b offs starts : List ℕ) (p t : ℕ) : Type 0 where
  pub row : RowThere b offs starts p t
  pub edges : RowsThere b offs starts p (faces_at (get_or (set_in b) p []) 2 t)
  pub fit : T (faces_fit 3 (map (faces_at (get_or (set_in b) p []) 1) (faces_at (get_or (set_in b) p []) 2 t)))

abbrev pub TrianglesThere : (b offs starts : List ℕ) (p : ℕ) (ts : List ℕ) → Type 0
TrianglesThere b offs starts p ts = (t : ℕ) → In t ts → TriangleThere b offs starts p t

-- the tables are the index of an image, the rows of its set pass rules 7 and 8, and those of part p before slot s pass rule 9
pub record RowAhead (b offs starts keys : List ℕ) (p s : ℕ) : Type 0 where
  pub index : Indexed b offs starts (length (set_in b))
  pub named : Named b starts keys
  pub fields : Passed Fields (set_in b)
  pub order : Passed Order (set_in b)
  pub before : PassedBefore Boundary (set_in b) p s
  pub here : s < length (get_or (set_in b) p [])

-- besides, entity numbers have 32 bits, and slot s holds a row of dimension d
pub record RowOf (d : ℕ) (b offs starts keys : List ℕ) (p s : ℕ) : Type 0 where
  pub ahead : RowAhead b offs starts keys p s
  pub small : (t : ℕ) → t < length (get_or (set_in b) p []) → (get_or (get_or (set_in b) p []) t no_row).number < 2 ^ 32
  pub dim : (get_or (get_or (set_in b) p []) s no_row).dim ≡ d
