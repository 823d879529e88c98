-- Rule 9 of a row whose predecessors pass, by the slots of its faces, for each dimension. Assumes nothing.
use Prim.Native.Nat.{ℕ, suc, ◌+◌, ◌/◌, ◌^◌, ◌≤◌, ◌<◌}
use native.Mathlib.Omega.{arith}
use mathlib.Core.Path.{◌≡◌, refl, sym, ap, ap₂, ◌∙◌, subst}
use mathlib.Core.Bool.{Bool, true, false, ◌&&◌, and-true}
use mathlib.Core.Logic.{inl, inr}
use mathlib.Core.List.{List, [], ◌∷◌, map}
use lib.ListN.{length, get_or, drop, length-map}
use lib.Dec.{T, ltb, leb, eqb, ltb→lt, leb→le, eqb→eq, eqb-suc-suc}
use borrow.Author.Tests.{lt-ltb}
use Rattle.laws.specs.Lists.{In, every, some?, same, pairwise, ascending, insert, merge, unions}
use Rattle.laws.proofs.Tests.{and_l, and_r, split2, split8, T_true, true_T}
use Rattle.laws.proofs.Members.{every_in}
use Rattle.laws.proofs.Agree.{map_same, get_or_map, every-same, some_of_map, pairwise_of_map}
use Rattle.laws.proofs.Ascending.{asc_nil, asc_cons, asc_head, asc_tail, asc_adjacent, asc_places, head_out}
use Rattle.field.specs.Bytes.{u32_at, words}
use Rattle.part_set.specs.Masks.{has}
use Rattle.paper.specs.Image.{Row, no_row, row_at}
use Rattle.paper.specs.Mesh.{slots_of, ent_of, shape_of, simplex}
use Rattle.paper.specs.Sound.{name_of_row, value_fitting, body_fitting, fields_fit, ordered, slots_stand, boundary_stands}
use Rattle.index.specs.Index.{set_in}
use Rattle.demands.proofs.ForCode.Slots.{slot_vertices, slot_faces, slot_shares, slot_simplex, boundary_slots}
use Rattle.paper.specs.declared.Rule.TheVariants.{Boundary}
use Rattle.paper.specs.Sound.{judged}
use Rattle.boundary.specs.Boundary.{others, each_faced, faces_fit, shares, faces_at, corners_below, faces_stand, face_keyed, faces_keyed, RowsThere, TrianglesThere, RowOf}
use Rattle.rows.proofs.Laws.{part_there, part-rows}
use Rattle.boundary.proofs.Fits.{faces_fit_lem, tail_out}

-- ---- slots that stand

-- the row's own dimension is one above that of the rows that it names
stand_at : (rows : List Row) (r : Row) (d : ℕ) → r.dim ≡ suc d → slots_stand rows r ≡ faces_stand rows d (slots_of (suc d) r.body)
unfolding slots_stand faces_stand ascending
stand_at rows r d e =
    let fs = slots_of (suc d) r.body in
    ap (λ (k : ℕ). every (λ f. ltb f (length rows) && eqb (suc (get_or rows f no_row).dim) k) (slots_of k r.body) && pairwise ltb (slots_of k r.body)) e
    ∙ ap (λ (t : Bool). t && pairwise ltb fs)
    (every-same (λ f. ltb f (length rows) && eqb (suc (get_or rows f no_row).dim) (suc d)) (λ f. ltb f (length rows) && eqb (get_or rows f no_row).dim d) fs
    (λ f i. ap (λ (t : Bool). ltb f (length rows) && t) (eqb-suc-suc (get_or rows f no_row).dim d)))

pub stand_there : (rows : List Row) (d : ℕ) (fs : List ℕ) → T (faces_stand rows d fs) → (f : ℕ) → In f fs → (f < length rows) × ((get_or rows f no_row).dim ≡ d)
unfolding faces_stand
stand_there rows d fs t f i =
    let is : ℕ → Bool = λ g. ltb g (length rows) && eqb (get_or rows g no_row).dim d in
    let s = split2 (ltb f (length rows)) (eqb (get_or rows f no_row).dim d) (every_in is fs (and_l (every is fs) (ascending fs) t) f i) in
    (ltb→lt f (length rows) s.0, eqb→eq (get_or rows f no_row).dim d s.1)

stand_ascends : (rows : List Row) (d : ℕ) (fs : List ℕ) → T (faces_stand rows d fs) → T (ascending fs)
unfolding faces_stand
stand_ascends rows d fs t = and_r (every (λ f. ltb f (length rows) && eqb (get_or rows f no_row).dim d) fs) (ascending fs) t

-- ---- faces by their vertices

faces_of_lem : (rows : List Row) (d s : ℕ)
    → slot_faces rows d (slot_vertices (suc d) rows s) (faces_at rows (suc d) s) ≡ faces_fit (d + 2) (map (slot_vertices d rows) (faces_at rows (suc d) s))
unfolding slot_faces slot_vertices faces_fit each_faced
faces_of_lem rows d s =
    let fs = faces_at rows (suc d) s in
    let vs = unions (map (slot_vertices d rows) fs) in
    ap (λ (t : Bool). eqb (length vs) (d + 2) && t)
    (every-same (λ v. some? (λ f. same (slot_vertices d rows f) (others v vs)) fs) (λ v. some? (λ f. same f (others v vs)) (map (slot_vertices d rows) fs)) vs
    (λ v i. sym (some_of_map (λ f. same f (others v vs)) (slot_vertices d rows) fs)))

-- slots that ascend are the union of each by itself
one_each : (xs : List ℕ) → T (ascending xs) → unions (map (λ x. x ∷ []) xs) ≡ xs
unfolding unions merge insert
one_each [] t = refl
one_each (x ∷ xs) t = ap (insert x) (one_each xs (asc_tail x xs t)) ∙ front xs t
  where
    front : (xs : List ℕ) → T (ascending (x ∷ xs)) → insert x xs ≡ x ∷ xs
    front [] t = refl
    front (y ∷ ys) t = rw (lt-ltb x y (asc_head x (y ∷ ys) t y (inl refl)))

edge-vertices : (rows : List Row) (e : ℕ) → T (ascending (faces_at rows 1 e)) → slot_vertices 1 rows e ≡ faces_at rows 1 e
unfolding slot_vertices
edge-vertices rows e t = one_each (faces_at rows 1 e) t

pub asc_two : (x y : ℕ) → x < y → T (ascending (x ∷ y ∷ []))
asc_two x y h = asc_cons x (y ∷ []) below (asc_cons y [] (λ q i. absurd i) asc_nil)
  where
    below : (q : ℕ) → In q (y ∷ []) → x < q
    below q (inl e) = omega arith
    below q (inr i) = absurd i

-- an edge names two
ends : (rows : List Row) (s : ℕ) → (x : ℕ) × (y : ℕ) × (faces_at rows 1 s ≡ x ∷ y ∷ [])
unfolding slots_of words
ends rows s = let body = (get_or rows s no_row).body in (u32_at body 0, u32_at (drop 4 body) 0, refl)

-- two vertices bound an edge
ends_fit : (x y : ℕ) → x < y → T (faces_fit 2 ((x ∷ []) ∷ (y ∷ []) ∷ []))
ends_fit x y h = faces_fit_lem (x ∷ y ∷ []) ((x ∷ []) ∷ (y ∷ []) ∷ []) (omega arith) (record { ascends = asc_two x y h; few = omega arith; faced = faced })
  where
    faced : (v : ℕ) → In v (x ∷ y ∷ []) → In (others v (x ∷ y ∷ [])) ((x ∷ []) ∷ (y ∷ []) ∷ [])
    faced v (inl e) = inr (inl (ap (λ (q : ℕ). others q (x ∷ y ∷ [])) e ∙ head_out x (y ∷ []) (asc_two x y h)))
    faced v (inr (inl e)) =
        inl (ap (λ (q : ℕ). others q (x ∷ y ∷ [])) e ∙ tail_out x (y ∷ []) y (asc_two x y h) (inl refl) ∙ ap (λ (l : List ℕ). x ∷ l) (head_out y [] (asc_tail x (y ∷ []) (asc_two x y h))))
    faced v (inr (inr i)) = absurd i

-- ---- the rows of the part

guarded : (t u v : Bool) → (T t → u ≡ v) → (t && u) ≡ (t && v)
guarded true u v h = h tt
guarded false u v h = refl

module _ {b offs starts keys : List ℕ} {p s : ℕ} {k : ℕ} (r : RowOf k b offs starts keys p s) where
  abbrev rows : List Row
  rows = get_or (set_in b) p []

  abbrev dim_of : ℕ → ℕ
  dim_of t = (get_or rows t no_row).dim

  ascends : T (ascending (map name_of_row rows))
  unfolding judged ordered
  ascends =
      asc_adjacent (map name_of_row rows) (λ t h.
      let n = length-map rows name_of_row in
      let l = ltb→lt (name_of_row (get_or rows t no_row)) (name_of_row (get_or rows (suc t) no_row)) (r.ahead.order p (suc t) (omega (arith, h, n))) in
      omega (arith, l, get_or_map name_of_row rows t no_row 0 (omega (arith, h, n)), get_or_map name_of_row rows (suc t) no_row 0 (omega (arith, h, n))))

  pub low : (t : ℕ) → t < length rows → dim_of t ≤ 3
  unfolding judged fields_fit row_at
  low t h =
      let row = get_or (get_or (set_in b) p []) t no_row in
      let n = length (set_in b) in
      leb→le row.dim 3 (split8 (leb row.dim 3) (ltb row.owner n) (leb row.kind 2) (eqb row.pad 0) (ltb row.mask (2 ^ n)) (has row.mask p)
      (value_fitting row.kind row.value) (body_fitting row.dim row.body) (r.ahead.fields p t h)).0

  by_slots : (t : ℕ) → t < length rows → t ≤ s → judged Boundary (set_in b) p t ≡ (slots_stand rows (get_or rows t no_row) && slot_simplex rows (dim_of t) t)
  unfolding judged row_at boundary_stands
  by_slots t h le =
      boundary_slots rows r.small ascends t h (low t h) (λ u l.
      let row = get_or rows u no_row in
      and_l (slots_stand rows row) (simplex (map (ent_of rows) rows) row.dim row.number (shape_of rows row.dim row.body)) (r.ahead.before u (omega (arith, l, le))))

  -- a row of lower dimension comes before
  comes_before : (f d : ℕ) → f < length rows → dim_of f ≡ d → d < k → f < s
  comes_before f d h e l =
      let n = length-map rows name_of_row in
      asc_places (map name_of_row rows) ascends f s (omega (arith, h, n)) (omega (arith, r.ahead.here, n))
      (omega (arith, get_or_map name_of_row rows f no_row 0 h, get_or_map name_of_row rows s no_row 0 r.ahead.here, r.small f h, r.dim, e, l))

  -- and passes
  passed : (f d : ℕ) → f < length rows → dim_of f ≡ suc d → suc d < k → T (faces_stand rows d (faces_at rows (suc d) f)) × T (slot_simplex rows (suc d) f)
  passed f d h e l =
      let before = comes_before f (suc d) h e l in
      let row = get_or rows f no_row in
      let t = subst T (by_slots f h (omega (arith, before))) (r.ahead.before f before) in
      let w = split2 (slots_stand rows row) (slot_simplex rows (dim_of f) f) t in
      (subst T (stand_at rows row d e) w.0, subst (λ (j : ℕ). T (slot_simplex rows j f)) e w.1)

  edge_corners : (e : ℕ) → e < length rows → dim_of e ≡ 1 → 1 < k → slot_vertices 1 rows e ≡ faces_at rows 1 e
  edge_corners e h d l = edge-vertices rows e (stand_ascends rows 0 (faces_at rows 1 e) (passed e 0 h d l).0)

  edges_corners : (fs : List ℕ) → T (faces_stand rows 1 fs) → 1 < k → map (slot_vertices 1 rows) fs ≡ map (faces_at rows 1) fs
  edges_corners fs t l = map_same (slot_vertices 1 rows) (faces_at rows 1) fs (λ e i. let w = stand_there rows 1 fs t e i in edge_corners e w.0 w.1 l)

  -- the row itself: its slots stand, and its faces fit
  itself : (d : ℕ) → k ≡ suc d → judged Boundary (set_in b) p s ≡ (faces_stand rows d (faces_at rows (suc d) s) && slot_simplex rows (suc d) s)
  itself d e =
      by_slots s r.ahead.here (omega arith) ∙ ap₂ ◌&&◌ (stand_at rows (get_or rows s no_row) d (r.dim ∙ e)) (ap (λ (j : ℕ). slot_simplex rows j s) (r.dim ∙ e))

  pub triangle_is : k ≡ 2 → judged Boundary (set_in b) p s ≡ (faces_stand rows 1 (faces_at rows 2 s) && faces_fit 3 (map (faces_at rows 1) (faces_at rows 2 s)))
  unfolding slot_simplex
  triangle_is e =
      let fs = faces_at rows 2 s in
      itself 1 e ∙ guarded (faces_stand rows 1 fs) (slot_simplex rows 2 s) (faces_fit 3 (map (faces_at rows 1) fs)) (λ t.
      and-true (slot_faces rows 1 (slot_vertices 2 rows s) fs) ∙ faces_of_lem rows 1 s ∙ ap (faces_fit 3) (edges_corners fs t (omega (arith, e))))

  -- a triangle before the row
  triangle_corners : (t : ℕ) → t < length rows → dim_of t ≡ 2 → 2 < k → slot_vertices 2 rows t ≡ corners_below rows t
  unfolding slot_vertices corners_below
  triangle_corners t h d l = ap unions (edges_corners (faces_at rows 2 t) (passed t 1 h d l).0 (omega (arith, l)))

  pub triangle_before : (t : ℕ) → t < length rows → dim_of t ≡ 2 → 2 < k → T (faces_stand rows 1 (faces_at rows 2 t)) × T (faces_fit 3 (map (faces_at rows 1) (faces_at rows 2 t)))
  unfolding slot_simplex
  triangle_before t h d l =
      let fs = faces_at rows 2 t in
      let w = passed t 1 h d l in
      let fit = subst T (and-true (slot_faces rows 1 (slot_vertices 2 rows t) fs) ∙ faces_of_lem rows 1 t ∙ ap (faces_fit 3) (edges_corners fs w.0 (omega (arith, l)))) w.1 in
      (w.0, fit)

  pub tetrahedron_is : k ≡ 3 → judged Boundary (set_in b) p s
      ≡ (faces_stand rows 2 (faces_at rows 3 s) && (faces_fit 4 (map (corners_below rows) (faces_at rows 3 s)) && pairwise shares (map (faces_at rows 2) (faces_at rows 3 s))))
  unfolding slot_simplex slot_shares shares
  tetrahedron_is e =
      let fs = faces_at rows 3 s in
      itself 2 e ∙ guarded (faces_stand rows 2 fs) (slot_simplex rows 3 s) (faces_fit 4 (map (corners_below rows) fs) && pairwise shares (map (faces_at rows 2) fs)) (λ t.
      ap₂ ◌&&◌
      (faces_of_lem rows 2 s ∙ ap (faces_fit 4) (map_same (slot_vertices 2 rows) (corners_below rows) fs (λ f i. let w = stand_there rows 2 fs t f i in triangle_corners f w.0 w.1 (omega (arith, e)))))
      (sym (pairwise_of_map shares (faces_at rows 2) fs)))

  pub edge_is : k ≡ 1 → judged Boundary (set_in b) p s ≡ faces_stand rows 0 (faces_at rows 1 s)
  unfolding slot_simplex slot_vertices
  edge_is e =
      let fs = faces_at rows 1 s in
      let w = ends rows s in
      itself 0 e ∙ guarded (faces_stand rows 0 fs) (slot_simplex rows 1 s) true (λ t.
      and-true (slot_faces rows 0 (slot_vertices 1 rows s) fs) ∙ faces_of_lem rows 0 s
      ∙ T_true (faces_fit 2 (map (λ v. v ∷ []) fs)) (subst (λ (l : List ℕ). T (faces_fit 2 (map (λ v. v ∷ []) l))) (sym w.2)
      (ends_fit w.0 w.1 (asc_head w.0 (w.1 ∷ []) (subst (λ (l : List ℕ). T (ascending l)) w.2 (stand_ascends rows 0 fs t)) w.1 (inl refl)))))
      ∙ and-true (faces_stand rows 0 fs)

  -- nothing is asked of a vertex
  pub vertex_is : k ≡ 0 → true ≡ judged Boundary (set_in b) p s
  unfolding slot_simplex slots_stand slots_of every pairwise
  vertex_is e =
      sym (by_slots s r.ahead.here (omega arith) ∙ nothing (get_or rows s no_row) (r.dim ∙ e) ∙ ap (λ (j : ℕ). slot_simplex rows j s) (r.dim ∙ e))
    where
      nothing : (row : Row) → row.dim ≡ 0 → (slots_stand rows row && slot_simplex rows row.dim s) ≡ slot_simplex rows row.dim s
      nothing row e = ap (λ (j : ℕ). (every (λ f. ltb f (length rows) && eqb (suc (get_or rows f no_row).dim) j) (slots_of j row.body) && pairwise ltb (slots_of j row.body)) && slot_simplex rows row.dim s) e

  -- ---- by the keys

  keyed_one : (d f : ℕ) → face_keyed starts keys p d f ≡ (ltb f (length rows) && eqb (dim_of f) d)
  unfolding face_keyed row_at
  keyed_one d f =
      ap (λ (n : ℕ). ltb f n && eqb (get_or keys (get_or starts p 0 + f) 0 / 2 ^ 32) d) (part-rows r.ahead.index p (part_there r.ahead.index p s r.ahead.here))
      ∙ guarded (ltb f (length rows)) (eqb (get_or keys (get_or starts p 0 + f) 0 / 2 ^ 32) d) (eqb (dim_of f) d) (λ t.
      let h = ltb→lt f (length rows) t in
      let e : get_or keys (get_or starts p 0 + f) 0 / 2 ^ 32 ≡ dim_of f = omega (arith, r.ahead.named.key p f h, r.small f h) in
      ap (λ (j : ℕ). eqb j d) e)

  keyed_is : (d : ℕ) (fs : List ℕ) → faces_keyed starts keys p d fs ≡ faces_stand rows d fs
  unfolding faces_keyed faces_stand
  keyed_is d fs = ap (λ (t : Bool). t && ascending fs) (every-same (face_keyed starts keys p d) (λ f. ltb f (length rows) && eqb (dim_of f) d) fs (λ f i. keyed_one d f))

  -- ---- what code reads: t, that the faces stand, and after that u, that they fit

  pub edge_judged : k ≡ 1 → {fs : List ℕ} → faces_at rows 1 s ≡ fs → {t : Bool} → t ≡ faces_keyed starts keys p 0 fs → t ≡ judged Boundary (set_in b) p s
  edge_judged e {fs} at keyed = keyed ∙ keyed_is 0 fs ∙ ap (faces_stand rows 0) (sym at) ∙ sym (edge_is e)

  module _ (d : ℕ) (fs : List ℕ) (at : faces_at rows (suc d) s ≡ fs) {t : Bool} (keyed : t ≡ faces_keyed starts keys p d fs) where
    stands : t ≡ faces_stand rows d (faces_at rows (suc d) s)
    stands = keyed ∙ keyed_is d fs ∙ ap (faces_stand rows d) (sym at)

    pub rows_there : t ≡ true → RowsThere b offs starts p fs
    rows_there e f i =
        let w = stand_there rows d fs (true_T (faces_stand rows d fs) (sym (keyed_is d fs) ∙ sym keyed ∙ e)) f i in
        record { index = r.ahead.index; here = w.0 }

    -- the faces do not stand
    pub fails : k ≡ suc d → t ≡ false → false ≡ judged Boundary (set_in b) p s
    fails e f = sym (itself d e ∙ ap (λ (x : Bool). x && slot_simplex rows (suc d) s) (sym stands ∙ f))

  pub triangle_judged : k ≡ 2 → {fs : List ℕ} → faces_at rows 2 s ≡ fs → {t u : Bool} → t ≡ faces_keyed starts keys p 1 fs → t ≡ true
      → u ≡ faces_fit 3 (map (faces_at rows 1) fs) → u ≡ judged Boundary (set_in b) p s
  triangle_judged e {fs} at keyed is fit =
      fit ∙ ap (λ (l : List ℕ). faces_fit 3 (map (faces_at rows 1) l)) (sym at)
      ∙ sym (triangle_is e ∙ ap (λ (x : Bool). x && faces_fit 3 (map (faces_at rows 1) (faces_at rows 2 s))) (sym (stands 1 fs at keyed) ∙ is))

  pub tetrahedron_judged : k ≡ 3 → {fs : List ℕ} → faces_at rows 3 s ≡ fs → {t u v : Bool} → t ≡ faces_keyed starts keys p 2 fs → t ≡ true
      → u ≡ faces_fit 4 (map (corners_below rows) fs) → v ≡ pairwise shares (map (faces_at rows 2) fs) → (u && v) ≡ judged Boundary (set_in b) p s
  tetrahedron_judged e {fs} at keyed is fit share =
      ap₂ ◌&&◌ fit share ∙ ap (λ (l : List ℕ). faces_fit 4 (map (corners_below rows) l) && pairwise shares (map (faces_at rows 2) l)) (sym at)
      ∙ sym (tetrahedron_is e ∙ ap (λ (x : Bool). x && (faces_fit 4 (map (corners_below rows) (faces_at rows 3 s)) && pairwise shares (map (faces_at rows 2) (faces_at rows 3 s)))) (sym (stands 2 fs at keyed) ∙ is))

  pub triangles_there : k ≡ 3 → {fs : List ℕ} → faces_at rows 3 s ≡ fs → {t : Bool} → t ≡ faces_keyed starts keys p 2 fs → t ≡ true → TrianglesThere b offs starts p fs
  triangles_there e {fs} at keyed is f i =
      let w = stand_there rows 2 fs (true_T (faces_stand rows 2 fs) (sym (keyed_is 2 fs) ∙ sym keyed ∙ is)) f i in
      let o = triangle_before f w.0 w.1 (omega (arith, e)) in
      record {
        row = record { index = r.ahead.index; here = w.0 };
        edges = λ g j. record { index = r.ahead.index; here = (stand_there rows 1 (faces_at rows 2 f) o.0 g j).0 };
        fit = o.1;
      }
