-- What each row of a spread is, field by field, by the residence sets of the mesh's entities and the counts of objects in the parts.
-- How code uses it: row by row `row_by` says what is to be written, with no part and no closure in sight; a slot is `slot_by`, a face is found in the
-- mesh by `slot_in es`, and the owner is the poorest by any table of counts that is right for the parts that are there.
-- Assumes nothing.
use Prim.Native.Nat.{ℕ, zero, suc, ◌+◌, ◌-◌, ◌*◌, ◌<◌}
use mathlib.Core.Path.{◌≡◌, refl, sym, ap, ap₂, ◌∙◌, subst}
use mathlib.Core.Bool.{Bool, true, false, cond}
use mathlib.Core.Logic.{inl, inr}
use mathlib.Core.List.{List, [], ◌∷◌, ◌++◌, map}
use lib.ListN.{length, get_or, replicate, length-map, get_or-map}
use lib.Dec.{T, eqb, ltb}
use Rattle.laws.specs.Lists.{In, keep, flat, ascending, up_to, index_of}
use Rattle.field.specs.Bytes.{bytes_of}
use Rattle.part_set.specs.Masks.{has, parts_in, others}
use Rattle.paper.specs.Image.{Row}
use Rattle.paper.specs.Mesh.{Entity, Parts, name_of, name, no_ent, slot_in, objects_in, poorest, owner_among}
use Rattle.paper.specs.Placement.{Placement, objects, spread, residence_in, body_in, row_for, rows_for, WellPlaced}
use Rattle.laws.proofs.Members.{get_or_in, in_map, in_keep, keep_in}
use Rattle.laws.proofs.Agree.{map_same}
use Rattle.laws.proofs.Places.{index_get_or}
use Rattle.laws.proofs.Ranges.{in_up_to, up_to_in}
use Rattle.part_set.proofs.MaskParts.{has_lt, parts_in_in, others_in}
use Rattle.demands.proofs.Entities.Fits.{fits_closed}
use Rattle.demands.proofs.Rows.ReadBack.{slot_lt, slot_name}
use Rattle.demands.proofs.Mesh.Spread.{spread-length}
use Rattle.demands.proofs.Mesh.ToFit.{spread_fit, ent_fits_lem}
use Rattle.demands.proofs.Fit.Held.{part_closed}
use Rattle.demands.proofs.Fit.Rows.{has-residence}
use Rattle.demands.proofs.ForCode.Spread.{mask_at, slot_by, part_by_masks, mask_lt, slot_of, objects_by_places}
use Rattle.demands.proofs.ForCode.Sizes.{rows_by_masks}

-- ---- what is to be written

-- the poorest of the parts qs by the counts c
unfoldable pub owner_by : (ℕ → ℕ) → List ℕ → ℕ
owner_by c [] = 0
owner_by c (p ∷ qs) = poorest c p qs

-- a vertex's coordinates, or the slots in part q of the faces that the mesh has at the places of their names, and zeros
unfoldable pub body_by : Parts → List Entity → ℕ → ℕ → List ℕ → List ℕ
body_by ps es q zero shape = flat (map (bytes_of 8) shape)
body_by ps es q (suc d) shape = flat (map (λ k. bytes_of 4 (slot_by ps es q (slot_in es (name_of d k)))) shape) ++ replicate (24 - 4 * (d + 2)) 0

-- the row of entity i in part q
unfoldable pub row_by : Parts → List Entity → (ℕ → ℕ) → ℕ → ℕ → Row
row_by ps es c q i =
    let e = get_or es i no_ent in
    let m = mask_at ps es i in
    record {
      number = e.number;
      dim = e.dim;
      owner = owner_by c (parts_in m);
      kind = e.kind;
      pad = 0;
      mask = m;
      value = e.value;
      body = body_by ps es q e.dim e.shape;
      slots = map (λ p. slot_by ps es p i) (others m q);
    }

-- ---- owners by counts

pub poorest-same : (c d : ℕ → ℕ) (p : ℕ) (qs : List ℕ) → c p ≡ d p → ((q : ℕ) → In q qs → c q ≡ d q) → poorest c p qs ≡ poorest d p qs
unfolding poorest
poorest-same c d p [] e h = refl
poorest-same c d p (q ∷ qs) e h =
    ap (λ (x : ℕ). poorest c x qs) (ap₂ (λ (x y : ℕ). cond (ltb x y) q p) (h q (inl refl)) e)
    ∙ poorest-same c d (cond (ltb (d q) (d p)) q p) qs (go (ltb (d q) (d p))) (λ x i. h x (inr i))
  where
    go : (t : Bool) → c (cond t q p) ≡ d (cond t q p)
    go true = h q (inl refl)
    go false = e

pub owner_counts : (ps : Parts) (c : ℕ → ℕ) (qs : List ℕ) → ((q : ℕ) → In q qs → objects_in ps q ≡ c q) → owner_among ps qs ≡ owner_by c qs
unfolding owner_among owner_by
owner_counts ps c [] h = refl
owner_counts ps c (p ∷ qs) h = poorest-same (objects_in ps) c p qs (h p (inl refl)) (λ q i. h q (inr i))

-- how many objects of es are placed in part q
unfoldable pub placed_in : List Entity → Placement → ℕ → ℕ
placed_in es place q = length (keep (λ o. eqb (place (name o)) q) (objects es))

-- ---- the rows

-- an entity's place in the mesh is that of its name
pub index_of_lem : (es : List Entity) → T (ascending (map name es)) → (i : ℕ) → i < length es → slot_in es (name (get_or es i no_ent)) ≡ i
unfolding slot_in
index_of_lem es up i l =
    ap (λ (k : ℕ). index_of k (map name es)) (sym (get_or-map name es i no_ent))
    ∙ index_get_or (map name es) up i (subst (λ (z : ℕ). i < z) (sym (length-map es name)) l)

module _ (n : ℕ) (es : List Entity) (place : Placement) (W : WellPlaced n es place) where
  -- an entity that has the bit of a part is there
  pub has_in_part : (q i : ℕ) → q < n → i < length es → T (has (mask_at (spread n es place) es i) q) → In (get_or es i no_ent) (get_or (spread n es place) q [])
  has_in_part q i h l t =
      let on : ℕ → Bool = λ i. has (mask_at (spread n es place) es i) q in
      subst (λ (part : List Entity). In (get_or es i no_ent) part) (sym (part_by_masks n es place q h))
      (in_map (λ i. get_or es i no_ent) (keep on (up_to (length es))) i (in_keep on (up_to (length es)) i (in_up_to (length es) i l) t))

  -- the face k of entity i stands in the mesh, in each part of entity i
  pub face_index : (q i d k : ℕ) → q < n → i < length es → T (has (mask_at (spread n es place) es i) q) → (get_or es i no_ent).dim ≡ suc d → In k (get_or es i no_ent).shape
      → let j = slot_in es (name_of d k) in (j < length es) × (name (get_or es j no_ent) ≡ name_of d k) × T (has (mask_at (spread n es place) es j) q)
  face_index q i d k h l t p m =
      let ps = spread n es place in
      let e = get_or es i no_ent in
      let held = ((fits_closed es (ent_fits_lem n es place W)).shape e d k (get_or_in es i no_ent l) p m).1 in
      let there = ((part_closed ps (spread_fit n es place W) q).shape e d k (has_in_part q i h l t) p m).1 in
      let is = slot_name es (name_of d k) held in (
        slot_lt es (name_of d k) held,
        is,
        subst (λ (z : ℕ). T (has (residence_in ps z) q)) (sym is)
            (subst T (sym (has-residence ps (name_of d k) q (subst (λ (z : ℕ). q < z) (sym (spread-length n es place)) h))) there),
      )

  -- and its slot there is by the sets
  pub face_slot : (q i d k : ℕ) → q < n → i < length es → T (has (mask_at (spread n es place) es i) q) → (get_or es i no_ent).dim ≡ suc d → In k (get_or es i no_ent).shape
      → slot_in (get_or (spread n es place) q []) (name_of d k) ≡ slot_by (spread n es place) es q (slot_in es (name_of d k))
  face_slot q i d k h l t p m =
      let w = face_index q i d k h l t p m in
      ap (slot_in (get_or (spread n es place) q [])) (sym w.1) ∙ slot_of n es place W q (slot_in es (name_of d k)) h w.0 w.2

  body_at : (q i : ℕ) → q < n → i < length es → T (has (mask_at (spread n es place) es i) q) → (d : ℕ) → (get_or es i no_ent).dim ≡ d
      → body_in (get_or (spread n es place) q []) d (get_or es i no_ent).shape ≡ body_by (spread n es place) es q d (get_or es i no_ent).shape
  unfolding body_in body_by
  body_at q i h l t zero p = refl
  body_at q i h l t (suc d) p =
      let ps = spread n es place in
      ap (λ (bs : List (List ℕ)). flat bs ++ replicate (24 - 4 * (d + 2)) 0)
      (map_same (λ k. bytes_of 4 (slot_in (get_or ps q []) (name_of d k))) (λ k. bytes_of 4 (slot_by ps es q (slot_in es (name_of d k)))) (get_or es i no_ent).shape
      (λ k m. ap (bytes_of 4) (face_slot q i d k h l t p m)))

  -- 4. the owner, by any counts that are right for the parts that are there
  pub owner_by_counts : (c : ℕ → ℕ) → ((q : ℕ) → q < n → c q ≡ placed_in es place q) → (i : ℕ)
      → owner_among (spread n es place) (parts_in (mask_at (spread n es place) es i)) ≡ owner_by c (parts_in (mask_at (spread n es place) es i))
  unfolding placed_in
  owner_by_counts c right i =
      let m = mask_at (spread n es place) es i in
      owner_counts (spread n es place) c (parts_in m) (λ q j.
      let h = has_lt n m q (mask_lt n es place i) (parts_in_in m q j).1 in objects_by_places n es place W q h ∙ sym (right q h))

  -- 7. a row of the output
  module _ (c : ℕ → ℕ) (right : (q : ℕ) → q < n → c q ≡ placed_in es place q) where
    pub row_by_masks : (q i : ℕ) → q < n → i < length es → T (has (mask_at (spread n es place) es i) q)
        → row_for (spread n es place) q (get_or es i no_ent) ≡ row_by (spread n es place) es c q i
    unfolding row_for row_by
    row_by_masks q i h l t =
        let ps = spread n es place in
        let e = get_or es i no_ent in
        let m = mask_at ps es i in
        let own = owner_by_counts c right i in
        let body = body_at q i h l t e.dim refl in
        let slots = map_same (λ p. slot_in (get_or ps p []) (name e)) (λ p. slot_by ps es p i) (others m q) (λ p j.
        let o = others_in m q p j in slot_of n es place W p i (has_lt n m p (mask_lt n es place i) o.1) l o.1) in
        λ j. record { number = e.number; dim = e.dim; owner = own j; kind = e.kind; pad = 0; mask = m; value = e.value; body = body j; slots = slots j }

    -- and all rows of a part
    pub part_rows_by_masks : (q : ℕ) → q < n → get_or (rows_for (spread n es place)) q []
        ≡ map (row_by (spread n es place) es c q) (keep (λ i. has (mask_at (spread n es place) es i) q) (up_to (length es)))
    part_rows_by_masks q h =
        let ps = spread n es place in
        let on : ℕ → Bool = λ i. has (mask_at ps es i) q in
        rows_by_masks n es place W q h
        ∙ map_same (λ i. row_for ps q (get_or es i no_ent)) (row_by ps es c q) (keep on (up_to (length es)))
        (λ i j. let w = keep_in on (up_to (length es)) i j in row_by_masks q i h (up_to_in (length es) i w.0) w.1)
