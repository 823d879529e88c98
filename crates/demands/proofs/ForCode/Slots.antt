-- Rule 9 by slots: the paper judges a boundary by entity numbers, code reads slots.
-- How code uses it: rows are judged in the order of their slots, after rules 7 and 8. For the first row that may fail, at slot s, all rows before
-- it pass; then the judgement of the paper is that of the slots (`boundary_slots`): its slots stand, and they are the boundary of a simplex, whose
-- vertices are worked out from slot to slot with no search for a number (`slot_vertices`, `slot_simplex`).
-- Assumes nothing.
use Prim.Native.Nat.{ℕ, zero, suc, ◌+◌, ◌^◌, ◌<◌, ◌≤◌}
use native.Mathlib.Nat.{not-suc-le-zero, le_of_suc-le-suc}
use native.Mathlib.Omega.{arith}
use mathlib.Core.Path.{◌≡◌, refl, sym, ap, ap₂, ◌∙◌, subst}
use mathlib.Core.Bool.{Bool, true, false, not, ◌&&◌, ◌||◌}
use mathlib.Core.Logic.{◌⊎◌, inl, inr}
use mathlib.Core.List.{List, [], ◌∷◌, map}
use lib.ListN.{length, get_or, length-map}
use lib.Dec.{T, ltb, eqb, ltb→lt, nltb→le}
use Rattle.laws.specs.Lists.{In, every, some?, keep, pairwise, ascending, member, same, unions}
use Rattle.paper.specs.Image.{Row, no_row}
use Rattle.paper.specs.Mesh.{Entity, name, slots_of, shape_of, ent_of, shape_in, vertices, faces_of, share_edges, simplex}
use Rattle.paper.specs.Sound.{name_of_row, slots_stand, boundary_stands}
use Rattle.laws.proofs.Tests.{decide, true_T}
use Rattle.laws.proofs.Members.{in_map, map_in, get_or_in, keep_in}
use Rattle.laws.proofs.Agree.{map_same, map_of_map, get_or_map, every-same, some_same, pairwise-same, every_of_map, some_of_map, pairwise_of_map}
use Rattle.laws.proofs.Ascending.{asc_get_or, asc_places}
use Rattle.laws.proofs.Keyed.{ascends_uniq}
use Rattle.laws.proofs.Increasing.{unions_in, map-unions, same_after, member_after, keep_others_after}
use Rattle.demands.proofs.Entities.Names.{Uniq}
use Rattle.demands.proofs.Entities.Closed.{look}
use Rattle.demands.proofs.Sound.Slots.{slots_of_lem}

-- ---- vertices and simplices by slots

-- the slots that row s names
abbrev pub slots_at : List Row → ℕ → ℕ → List ℕ
slots_at rows d s = slots_of d (get_or rows s no_row).body

-- the slots of the vertices of row s, of dimension d, ascending
unfoldable pub slot_vertices : ℕ → List Row → ℕ → List ℕ
slot_vertices zero rows s = s ∷ []
slot_vertices (suc d) rows s = unions (map (slot_vertices d rows) (slots_at rows (suc d) s))

-- for each of the d + 2 vertices one of the faces has the others
unfoldable pub slot_faces : List Row → ℕ → List ℕ → List ℕ → Bool
slot_faces rows d vs fs = eqb (length vs) (d + 2) && every (λ v. some? (λ f. same (slot_vertices d rows f) (keep (λ w. not (eqb w v)) vs)) fs) vs

-- each two of the triangles share an edge
unfoldable pub slot_shares : List Row → List ℕ → Bool
slot_shares rows fs = pairwise (λ f g. some? (λ e. member e (slots_at rows 2 g)) (slots_at rows 2 f)) fs

unfoldable pub slot_simplex : List Row → ℕ → ℕ → Bool
slot_simplex rows zero s = true
slot_simplex rows (suc d) s = slot_faces rows d (slot_vertices (suc d) rows s) (slots_at rows (suc d) s) && (ltb d 2 || slot_shares rows (slots_at rows (suc d) s))

-- ---- the rows of one part: numbers have 32 bits, and names ascend

module _ (rows : List Row) (small : (t : ℕ) → t < length rows → (get_or rows t no_row).number < 2 ^ 32) (ascends : T (ascending (map name_of_row rows))) where
  num : ℕ → ℕ
  num t = (get_or rows t no_row).number

  es : List Entity
  es = map (ent_of rows) rows

  -- t is the slot of a row of dimension d
  At : ℕ → ℕ → Type 0
  At d t = (t < length rows) × ((get_or rows t no_row).dim ≡ d)

  -- slots up to s name rows of the dimension below
  Stands : ℕ → Type 0
  Stands s = (t : ℕ) → t ≤ s → T (slots_stand rows (get_or rows t no_row))

  name_at : (t : ℕ) → t < length rows → get_or (map name_of_row rows) t 0 ≡ name_of_row (get_or rows t no_row)
  name_at t h = get_or_map name_of_row rows t no_row 0 h

  -- of rows of one dimension the later has the greater number
  num_up : (d a b : ℕ) → At d a → At d b → a < b → num a < num b
  unfolding num At
  num_up d a b p q h =
      let n = length-map rows name_of_row in
      omega (arith, asc_get_or (map name_of_row rows) ascends a b h (omega (arith, q.0)), name_at a p.0, name_at b q.0, p.1, q.1)

  -- a row of lower dimension comes before
  comes_before : (d t s : ℕ) → At d t → At (suc d) s → t < s
  unfolding At
  comes_before d t s p q =
      let n = length-map rows name_of_row in
      asc_places (map name_of_row rows) ascends t s (omega (arith, p.0)) (omega (arith, q.0))
      (omega (arith, name_at t p.0, name_at s q.0, p.1, q.1, small t p.0))

  faces_at_lem : (d s : ℕ) → At (suc d) s → Stands s → (f : ℕ) → In f (slots_at rows (suc d) s) → At d f × Stands f
  unfolding At Stands slots_of
  faces_at_lem d s p st f i =
      let o = slots_of_lem rows (get_or rows s no_row) d p.1 (st s (omega arith)) in
      let w = o.there f i in
      let before : f < s = comes_before d f s w p in
      (w, λ t h. st t (omega arith))

  -- ---- the entity of a number is that of its row

  uniq : Uniq es
  unfolding es ent_of
  uniq = ascends_uniq name (map (ent_of rows) rows) (subst (λ (l : List ℕ). T (ascending l)) (sym (map_of_map name (ent_of rows) rows)) ascends)

  look_at : (d t : ℕ) → At d t → shape_in es d (num t) ≡ shape_of rows d (get_or rows t no_row).body
  unfolding At es num ent_of
  look_at d t p =
      let r = get_or rows t no_row in
      look es uniq d (ent_of rows r) (in_map (ent_of rows) rows r (get_or_in rows t no_row p.0)) p.1 ∙ ap (λ (k : ℕ). shape_of rows k r.body) p.1

  shape_slots : (d t : ℕ) → At (suc d) t → shape_in es (suc d) (num t) ≡ map num (slots_at rows (suc d) t)
  unfolding shape_of num
  shape_slots d t p = look_at (suc d) t p

  -- ---- vertices

  vertex_at : (d s : ℕ) → At d s → Stands s → (t : ℕ) → In t (slot_vertices d rows s) → At 0 t
  unfolding slot_vertices
  vertex_at zero s p st t (inl e) = subst (At 0) (sym e) p
  vertex_at zero s p st t (inr i) = absurd i
  vertex_at (suc d) s p st t i =
      let w = unions_in (map (slot_vertices d rows) (slots_at rows (suc d) s)) t i in
      let v = map_in (slot_vertices d rows) (slots_at rows (suc d) s) w.0 w.1 in
      let f = faces_at_lem d s p st v.0 v.1 in
      vertex_at d v.0 f.0 f.1 t (subst (λ (l : List ℕ). In t l) v.2 w.2)

  vertices_at : (d s : ℕ) → At d s → Stands s → vertices d es (num s) ≡ map num (slot_vertices d rows s)
  unfolding vertices slot_vertices
  vertices_at zero s p st = refl
  vertices_at (suc d) s p st =
      let fs = slots_at rows (suc d) s in
      ap (λ (l : List ℕ). unions (map (vertices d es) l)) (shape_slots d s p)
      ∙ ap unions (map_of_map (vertices d es) num fs
      ∙ map_same (λ f. vertices d es (num f)) (λ f. map num (slot_vertices d rows f)) fs (λ f i. let w = faces_at_lem d s p st f i in vertices_at d f w.0 w.1)
      ∙ sym (map_of_map (map num) (slot_vertices d rows) fs))
      ∙ sym (map-unions (At 0) num (num_up 0) (map (slot_vertices d rows) fs) (λ xs i t j.
      let v = map_in (slot_vertices d rows) fs xs i in
      let w = faces_at_lem d s p st v.0 v.1 in
      vertex_at d v.0 w.0 w.1 t (subst (λ (l : List ℕ). In t l) v.2 j)))

  -- ---- simplices

  module _ (d s : ℕ) (p : At (suc d) s) (st : Stands s) where
    fs : List ℕ
    fs = slots_at rows (suc d) s

    vs : List ℕ
    vs = slot_vertices (suc d) rows s

    -- one face against all vertices but one
    face_same : (v : ℕ) → In v vs → (f : ℕ) → In f fs
        → same (vertices d es (num f)) (keep (λ w. not (eqb w (num v))) (map num vs)) ≡ same (slot_vertices d rows f) (keep (λ w. not (eqb w v)) vs)
    unfolding fs vs
    face_same v i f j =
        let w = faces_at_lem d s p st f j in
        ap₂ same (vertices_at d f w.0 w.1) (keep_others_after (At 0) num (num_up 0) v vs (vertex_at (suc d) s p st v i) (vertex_at (suc d) s p st))
        ∙ same_after (At 0) num (num_up 0) (slot_vertices d rows f) (keep (λ w. not (eqb w v)) vs) (vertex_at d f w.0 w.1)
        (λ t k. vertex_at (suc d) s p st t (keep_in (λ w. not (eqb w v)) vs t k).0)

    faces-same : faces_of es d (map num vs) (map num fs) ≡ slot_faces rows d vs fs
    unfolding faces_of slot_faces
    faces-same =
        ap₂ ◌&&◌ (ap (λ (k : ℕ). eqb k (d + 2)) (length-map vs num))
        (every_of_map (λ v. some? (λ f. same (vertices d es f) (keep (λ w. not (eqb w v)) (map num vs))) (map num fs)) num vs
        ∙ every-same (λ v. some? (λ f. same (vertices d es f) (keep (λ w. not (eqb w (num v))) (map num vs))) (map num fs))
        (λ v. some? (λ f. same (slot_vertices d rows f) (keep (λ w. not (eqb w v)) vs)) fs) vs (λ v i.
        some_of_map (λ f. same (vertices d es f) (keep (λ w. not (eqb w (num v))) (map num vs))) num fs
        ∙ some_same (λ f. same (vertices d es (num f)) (keep (λ w. not (eqb w (num v))) (map num vs))) (λ f. same (slot_vertices d rows f) (keep (λ w. not (eqb w v)) vs)) fs (face_same v i)))

  -- two triangles share an edge by number where they do by slot
  edges_same : (f g : ℕ) → At 2 f × Stands f → At 2 g × Stands g
      → some? (λ e. member e (shape_in es 2 (num g))) (shape_in es 2 (num f)) ≡ some? (λ e. member e (slots_at rows 2 g)) (slots_at rows 2 f)
  edges_same f g p q =
      let ef = slots_at rows 2 f in
      let eg = slots_at rows 2 g in
      ap₂ (λ (x y : List ℕ). some? (λ e. member e x) y) (shape_slots 1 g q.0) (shape_slots 1 f p.0)
      ∙ some_of_map (λ e. member e (map num eg)) num ef
      ∙ some_same (λ e. member (num e) (map num eg)) (λ e. member e eg) ef (λ e i.
      member_after (At 1) num (num_up 1) e eg (faces_at_lem 1 f p.0 p.1 e i).0 (λ t j. (faces_at_lem 1 g q.0 q.1 t j).0))

  shares-same : (s : ℕ) → At 3 s → Stands s → share_edges es (map num (slots_at rows 3 s)) ≡ slot_shares rows (slots_at rows 3 s)
  unfolding share_edges slot_shares
  shares-same s p st =
      pairwise_of_map (λ f g. some? (λ e. member e (shape_in es 2 g)) (shape_in es 2 f)) num (slots_at rows 3 s)
      ∙ pairwise-same (λ f g. some? (λ e. member e (shape_in es 2 (num g))) (shape_in es 2 (num f))) (λ f g. some? (λ e. member e (slots_at rows 2 g)) (slots_at rows 2 f)) (slots_at rows 3 s)
      (λ f g i j. edges_same f g (faces_at_lem 2 s p st f i) (faces_at_lem 2 s p st g j))

  simplex_at : (d s : ℕ) → At d s → d ≤ 3 → Stands s → simplex es d (num s) (shape_of rows d (get_or rows s no_row).body) ≡ slot_simplex rows d s
  unfolding simplex slot_simplex shape_of num fs vs
  simplex_at zero s p h st = refl
  simplex_at (suc d) s p h st =
      ap₂ ◌&&◌ (ap (λ (l : List ℕ). faces_of es d l (map num (slots_at rows (suc d) s))) (vertices_at (suc d) s p st) ∙ faces-same d s p st) (rest d p h)
    where
      rest : (d : ℕ) → At (suc d) s → suc d ≤ 3 → (ltb d 2 || share_edges es (map num (slots_at rows (suc d) s))) ≡ (ltb d 2 || slot_shares rows (slots_at rows (suc d) s))
      rest zero q g = refl
      rest (suc zero) q g = refl
      rest (suc (suc zero)) q g = shares-same s q st
      rest (suc (suc (suc d))) q g = absurd (not-suc-le-zero (le_of_suc-le-suc (le_of_suc-le-suc (le_of_suc-le-suc g))))

  -- ---- rule 9

  module _ (s : ℕ) (h : s < length rows) (low : (get_or rows s no_row).dim ≤ 3) (before : (t : ℕ) → t < s → T (slots_stand rows (get_or rows t no_row))) where
    stands : T (slots_stand rows (get_or rows s no_row)) → Stands s
    unfolding Stands
    stands own t l = go (decide (ltb t s))
      where
        go : T (ltb t s) ⊎ T (not (ltb t s)) → T (slots_stand rows (get_or rows t no_row))
        go (inl b) = before t (ltb→lt t s b)
        go (inr b) = let e : s ≡ t = omega (arith, nltb→le t s b) in subst (λ (z : ℕ). T (slots_stand rows (get_or rows z no_row))) e own

    -- the vertices of the row at slot s, by number and by slot
    pub row-vertices : T (slots_stand rows (get_or rows s no_row))
        → vertices (get_or rows s no_row).dim (map (ent_of rows) rows) (get_or rows s no_row).number ≡ map (λ t. (get_or rows t no_row).number) (slot_vertices (get_or rows s no_row).dim rows s)
    unfolding At num es
    row-vertices own = vertices_at (get_or rows s no_row).dim s (h, refl) (stands own)

    -- the judgement of the paper is that of the slots
    pub boundary_slots : boundary_stands rows (get_or rows s no_row) ≡ (slots_stand rows (get_or rows s no_row) && slot_simplex rows (get_or rows s no_row).dim s)
    unfolding boundary_stands At num es
    boundary_slots = go (slots_stand rows (get_or rows s no_row)) refl
      where
        go : (b : Bool) → slots_stand rows (get_or rows s no_row) ≡ b
            → (b && simplex (map (ent_of rows) rows) (get_or rows s no_row).dim (get_or rows s no_row).number (shape_of rows (get_or rows s no_row).dim (get_or rows s no_row).body)) ≡ (b && slot_simplex rows (get_or rows s no_row).dim s)
        go true e = simplex_at (get_or rows s no_row).dim s (h, refl) low (stands (true_T (slots_stand rows (get_or rows s no_row)) e))
        go false e = refl
