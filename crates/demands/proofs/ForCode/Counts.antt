-- Objects counted in the rows: how many go to a part, and how many change their part, by a pass over the rows that are not covered.
-- How code uses it: an object has one row, so a pass over the rows part by part meets each object once (`objects_by_parts`); `kept_total` turns what
-- is kept of a list into a sum that grows at its end.
-- Assumes nothing.
use Prim.Native.Nat.{ℕ, ◌+◌, ◌*◌, ◌<◌}
use native.Mathlib.Nat.{mul-one}
use native.Mathlib.Omega.{arith}
use mathlib.Core.Path.{◌≡◌, refl, sym, ap, ◌∙◌, subst}
use mathlib.Core.Bool.{Bool, true, false, not, cond, ◌&&◌}
use mathlib.Core.List.{List, [], ◌∷◌, map}
use lib.ListN.{length, get_or, length-map}
use lib.Dec.{T, eqb}
use Rattle.laws.specs.Lists.{In, keep, flat, up_to, total}
use Rattle.part_set.specs.Masks.{has, parts_in, count}
use Rattle.paper.specs.Image.{Row, Set, no_row}
use Rattle.paper.specs.Mesh.{Entity, Parts, name, no_ent, ent_of, parts_of, mesh_of, is_object}
use Rattle.paper.specs.Sound.{name_of_row}
use Rattle.paper.specs.Placement.{Placement, objects, spread, place_in, places_of, WellPlaced}
use Rattle.paper.specs.Move.{changes}
use Rattle.laws.proofs.Tests.{and_l}
use Rattle.laws.proofs.Members.{in_get_or}
use Rattle.laws.proofs.Agree.{keep_agree, keep_of_map}
use Rattle.laws.proofs.Ascending.{one_only}
use Rattle.laws.proofs.Totals.{total-same, total_zero}
use Rattle.part_set.proofs.MaskParts.{has_lt, parts_in_in, in_parts_in, parts_in_ascends}
use Rattle.part_set.proofs.Walk.{count_parts}
use Rattle.demands.proofs.Mesh.ToFit.{spread_fit, spread-mesh}
use Rattle.demands.proofs.Sound.Facts.{Sound}
use Rattle.demands.proofs.Sound.Rows.{row, ent, parts_at, parts_count, in_part_lem}
use Rattle.demands.proofs.Sound.ToFit.{sound_fit}
use Rattle.demands.proofs.Fit.ToMesh.{mesh_object, object_found, is_spread, well_placed}
use Rattle.demands.proofs.ForCode.Covered.{covered}
use Rattle.demands.proofs.ForCode.Spread.{mask_at, keep_read, part_by_masks, mask_lt, mask_some, few_parts}
use Rattle.demands.proofs.ForCode.Sizes.{total_swap, total_each, total_parts}
use Rattle.demands.proofs.ForCode.SpreadRows.{placed_in, has_in_part}
use Rattle.demands.proofs.ForCode.Marks.{row_is_object}

-- ---- what is kept, counted

module _ {A : Type 0} where
  keep-keep : (f g : A → Bool) (xs : List A) → keep g (keep f xs) ≡ keep (λ x. f x && g x) xs
  unfolding keep
  keep-keep f g [] = refl
  keep-keep f g (x ∷ xs) = go (f x) (keep-keep f g xs)
    where
      go : (b : Bool) → keep g (keep f xs) ≡ keep (λ x. f x && g x) xs
          → keep g (cond b (x ∷ keep f xs) (keep f xs)) ≡ cond (b && g x) (x ∷ keep (λ x. f x && g x) xs) (keep (λ x. f x && g x) xs)
      go true e = ap (λ (r : List A). cond (g x) (x ∷ r) r) e
      go false e = e

  -- element by element
  pub kept_total : (f : A → Bool) (xs : List A) (d : A) → length (keep f xs) ≡ total (λ i. cond (f (get_or xs i d)) 1 0) (length xs)
  kept_total f xs d =
      let ks = keep (λ i. f (get_or xs i d)) (up_to (length xs)) in
      ap length (keep_read f xs d) ∙ length-map ks (λ i. get_or xs i d)
      ∙ sym (total_each (λ i. f (get_or xs i d)) 1 (length xs) ∙ mul-one (length ks))

  -- where two maps differ
  changes_kept : (f g : A → ℕ) (xs : List A) → changes (map f xs) (map g xs) ≡ length (keep (λ x. not (eqb (f x) (g x))) xs)
  unfolding changes keep
  changes_kept f g [] = refl
  changes_kept f g (x ∷ xs) = go (eqb (f x) (g x)) (changes_kept f g xs)
    where
      go : (b : Bool) → changes (map f xs) (map g xs) ≡ length (keep (λ x. not (eqb (f x) (g x))) xs)
          → cond b 0 1 + changes (map f xs) (map g xs) ≡ length (cond (not b) (x ∷ keep (λ x. not (eqb (f x) (g x))) xs) (keep (λ x. not (eqb (f x) (g x))) xs))
      go true e = omega arith
      go false e = omega arith

-- ---- a mesh that fits, well placed

module _ (n : ℕ) (es : List Entity) (place : Placement) (W : WellPlaced n es place) where
  -- an object is in one part
  object_count : (i : ℕ) → i < length es → T (is_object es (name (get_or es i no_ent))) → count (mask_at (spread n es place) es i) ≡ 1
  object_count i l t =
      let ps = spread n es place in
      let F = spread_fit n es place W in
      let m = mask_at ps es i in
      let e = get_or es i no_ent in
      let w = mask_some n es place W i l in
      let few = few_parts n es place W in
      let obj : T (is_object (flat ps) (name e)) =
      subst T (sym (mesh_object ps F (name e) ∙ ap (λ (fs : List Entity). is_object fs (name e)) (spread-mesh n es place W))) t in
      let at : (q : ℕ) → q < n → T (has m q) → In e (get_or ps q []) = λ q h b. has_in_part n es place W q i h l b in
      count_parts m ∙ one_only (parts_in m) (parts_in_ascends m) w.0 (in_parts_in m w.0 (omega (arith, w.1)) w.2) (λ q j.
      let b = (parts_in_in m q j).1 in
      F.once q w.0 e (at q (has_lt n m q (mask_lt n es place i) b) b) (at w.0 w.1 w.2) obj)

  module _ (G : Entity → Bool) where
    -- an object of the kind
    abbrev H : Entity → Bool
    H e = is_object es (name e) && G e

    part-total : (p : ℕ) → p < n
        → length (keep H (get_or (spread n es place) p [])) ≡ total (λ i. cond (has (mask_at (spread n es place) es i) p && H (get_or es i no_ent)) 1 0) (length es)
    part-total p h =
        let t : ℕ → Bool = λ i. has (mask_at (spread n es place) es i) p in
        let e : ℕ → Entity = λ i. get_or es i no_ent in
        let ks = keep t (up_to (length es)) in
        let both' : ℕ → Bool = λ i. t i && H (e i) in
        ap (λ (part : List Entity). length (keep H part)) (part_by_masks n es place p h)
        ∙ ap length (keep_of_map H e ks) ∙ length-map (keep (λ i. H (e i)) ks) e
        ∙ ap length (keep-keep t (λ i. H (e i)) (up_to (length es)))
        ∙ sym (total_each both' 1 (length es) ∙ mul-one (length (keep both' (up_to (length es)))))

    -- entity i, over all parts
    over_parts : (i : ℕ) → i < length es → total (λ p. cond (has (mask_at (spread n es place) es i) p && H (get_or es i no_ent)) 1 0) n ≡ cond (H (get_or es i no_ent)) 1 0
    over_parts i l = go (H (get_or es i no_ent)) (and_l (is_object es (name (get_or es i no_ent))) (G (get_or es i no_ent)))
      where
        same : (x : Bool) → ◌≡◌ {A = ℕ} (cond (x && true) 1 0) (cond x 1 0)
        same true = refl
        same false = refl

        none : (x : Bool) → ◌≡◌ {A = ℕ} (cond (x && false) 1 0) 0
        none true = refl
        none false = refl

        go : (b : Bool) → (T b → T (is_object es (name (get_or es i no_ent)))) → total (λ p. cond (has (mask_at (spread n es place) es i) p && b) 1 0) n ≡ cond b 1 0
        go true t =
            total-same (λ p. cond (has (mask_at (spread n es place) es i) p && true) 1 0) (λ p. cond (has (mask_at (spread n es place) es i) p) 1 0) n
            (λ p _. same (has (mask_at (spread n es place) es i) p))
            ∙ total_parts n (mask_at (spread n es place) es i) 1 (few_parts n es place W) (mask_lt n es place i)
            ∙ ap (λ (k : ℕ). k * 1) (object_count i l (t tt))
        go false t =
            total_zero (λ p. cond (has (mask_at (spread n es place) es i) p && false) 1 0) n (λ p. none (has (mask_at (spread n es place) es i) p))

    -- objects of any kind, counted part by part
    pub objects_by_parts : length (keep G (objects es)) ≡ total (λ p. length (keep (λ e. is_object es (name e) && G e) (get_or (spread n es place) p []))) n
    unfolding objects
    objects_by_parts =
        let L = length es in
        let on : ℕ → ℕ → ℕ = λ p i. cond (has (mask_at (spread n es place) es i) p && H (get_or es i no_ent)) 1 0 in
        ap length (keep-keep (λ e. is_object es (name e)) G es)
        ∙ kept_total H es no_ent
        ∙ sym (total-same (λ p. length (keep H (get_or (spread n es place) p []))) (λ p. total (on p) L) n part-total
        ∙ total_swap on n L
        ∙ total-same (λ i. total (λ p. on p i) n) (λ i. cond (H (get_or es i no_ent)) 1 0) L over_parts)

-- ---- a sound set

module _ (S : Set) (f : Sound S) where
  -- objects of any kind, counted in the rows of each part
  objects_in_rows : (G : Entity → Bool) (R : ℕ → Row → Bool) → ((p s : ℕ) → s < length (get_or S p []) → T (not (covered S p (name_of_row (row S p s)))) → G (ent S p s) ≡ R p (row S p s))
      → length (keep G (objects (mesh_of (parts_of S)))) ≡ total (λ p. length (keep (λ r. not (covered S p (name_of_row r)) && R p r) (get_or S p []))) (length S)
  unfolding ent_of
  objects_in_rows G R same =
      let ps = parts_of S in
      let F = sound_fit S f in
      let es = mesh_of ps in
      let H : Entity → Bool = λ e. is_object es (name e) && G e in
      objects_by_parts (length ps) es (place_in ps) (well_placed ps F) G
      ∙ ap (λ (qs : Parts). total (λ p. length (keep H (get_or qs p []))) (length ps)) (sym (is_spread ps F))
      ∙ ap (total (λ p. length (keep H (get_or ps p [])))) (parts_count S)
      ∙ total-same (λ p. length (keep H (get_or ps p []))) (λ p. length (keep (λ r. not (covered S p (name_of_row r)) && R p r) (get_or S p []))) (length S) (λ p h.
      let rows = get_or S p [] in
      let ks = keep (λ r. H (ent_of rows r)) rows in
      ap (λ (part : List Entity). length (keep H part)) (parts_at S p)
      ∙ ap length (keep_of_map H (ent_of rows) rows) ∙ length-map ks (ent_of rows)
      ∙ ap length (keep_agree (λ r. H (ent_of rows r)) (λ r. not (covered S p (name_of_row r)) && R p r) rows (λ r i.
      let w = in_get_or rows r no_row i in
      subst (λ (x : Row). H (ent_of rows x) ≡ (not (covered S p (name_of_row x)) && R p x)) (sym w.2) (at p w.0 w.1))))
    where
      at : (p s : ℕ) → s < length (get_or S p [])
          → (is_object (mesh_of (parts_of S)) (name (ent S p s)) && G (ent S p s)) ≡ (not (covered S p (name_of_row (row S p s))) && R p (row S p s))
      at p s h =
          ap (λ (b : Bool). b && G (ent S p s)) (row_is_object S f p s h) ∙ go (not (covered S p (name_of_row (row S p s)))) (same p s h)
        where
          go : (b : Bool) → (T b → G (ent S p s) ≡ R p (row S p s)) → (b && G (ent S p s)) ≡ (b && R p (row S p s))
          go true x = x tt
          go false x = refl

  -- how many objects go to part q
  pub placed_by_rows : (place : Placement) (q : ℕ)
      → placed_in (mesh_of (parts_of S)) place q ≡ total (λ p. length (keep (λ r. not (covered S p (name_of_row r)) && eqb (place (name_of_row r)) q) (get_or S p []))) (length S)
  unfolding placed_in ent_of
  placed_by_rows place q = objects_in_rows (λ e. eqb (place (name e)) q) (λ p r. eqb (place (name_of_row r)) q) (λ p s h t. refl)

  -- how many change their part
  pub moved_by_rows : (place : Placement)
      → changes (places_of (mesh_of (parts_of S)) (place_in (parts_of S))) (places_of (mesh_of (parts_of S)) place)
      ≡ total (λ p. length (keep (λ r. not (covered S p (name_of_row r)) && not (eqb p (place (name_of_row r)))) (get_or S p []))) (length S)
  unfolding places_of ent_of
  moved_by_rows place =
      changes_kept (λ e. place_in (parts_of S) (name e)) (λ e. place (name e)) (objects (mesh_of (parts_of S)))
      ∙ objects_in_rows (λ e. not (eqb (place_in (parts_of S) (name e)) (place (name e)))) (λ p r. not (eqb p (place (name_of_row r)))) (λ p s h t.
      ap (λ (x : ℕ). not (eqb x (place (name (ent S p s))))) (object_found (parts_of S) (sound_fit S f) p (ent S p s) (in_part_lem S p s h) (object p s h t)))
    where
      object : (p s : ℕ) → s < length (get_or S p []) → T (not (covered S p (name_of_row (row S p s)))) → T (is_object (mesh_of (parts_of S)) (name (ent S p s)))
      object p s h t = subst T (sym (row_is_object S f p s h)) t
