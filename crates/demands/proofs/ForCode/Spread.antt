-- What the rows of a spread are, by the residence sets of the mesh's entities in their order: entity i of es is in part q exactly where bit q of its
-- set is there, its slot is how many entities before it have that bit, and its set is that of the parts of the objects whose closures it is in.
-- How code uses it: with one word for each entity of the mesh, the set `mask_at ps es i`, every field of every row of the output is read off.
-- Assumes nothing.
use Prim.Native.Nat.{ℕ, zero, suc, ◌+◌, ◌^◌, ◌<◌, ◌≤◌}
use native.Mathlib.Nat.{not-suc-le-zero, le_of_suc-le-suc}
use native.Mathlib.Numerals.{add-one}
use native.Mathlib.Omega.{arith}
use mathlib.Core.Path.{◌≡◌, sym, ap, ◌∙◌, subst}
use mathlib.Core.Bool.{Bool, true, false, cond, ◌&&◌}
use mathlib.Core.List.{List, [], ◌∷◌, map}
use lib.ListN.{length, get_or, take, length-map}
use lib.Seq.{ext_get_or, get_or-take, take-length, length-take-le}
use lib.Dec.{T, eqb, eqb→eq, eqb_refl, leb→le}
use Rattle.laws.specs.Lists.{In, some?, keep, flat, ascending, up_to, member, index_of}
use Rattle.part_set.specs.Masks.{has}
use Rattle.paper.specs.Mesh.{Entity, Parts, name, no_ent, closure, is_object, holds, slot_in, objects_in}
use Rattle.paper.specs.Placement.{Placement, objects, closures, spread, residence_in, place_in, places_of, WellPlaced}
use Rattle.laws.proofs.Tests.{T_true, ne_eqb, iff_eq, both, split2, eq-eqb}
use Rattle.laws.proofs.Members.{keep_in, in_keep, member_in, in_member, some_in, in_some, get_or_in, flat_map_in, in_flat_map}
use Rattle.laws.proofs.Agree.{keep_agree, keep_of_map, get_or_map}
use Rattle.laws.proofs.Keyed.{head_below, tail_ascends, keep-ascends, ascending_ext}
use Rattle.laws.proofs.Ranges.{length_up_to, get_or_up_to}
use Rattle.laws.proofs.Totals.{kept_none, kept_suc}
use Rattle.demands.proofs.Entities.Names.{holds_in, in_holds}
use Rattle.demands.proofs.Mesh.Spread.{spread-length, spread-part, spread_in}
use Rattle.demands.proofs.Mesh.ToFit.{spread_fit, spread-mesh, spread-places, names_ascend}
use Rattle.demands.proofs.Fit.ToMesh.{mesh_in, mesh_object}
use Rattle.demands.proofs.Fit.Where.{object_in}
use Rattle.part_set.proofs.OnePart.{has_none}
use Rattle.demands.proofs.Fit.Rows.{has-residence, residence_lt, holds-residence}

-- the residence set of entity i of es in the parts ps
abbrev pub mask_at : Parts → List Entity → ℕ → ℕ
mask_at ps es i = residence_in ps (name (get_or es i no_ent))

-- how many of the first i entities are in part q
unfoldable pub slot_by : Parts → List Entity → ℕ → ℕ → ℕ
slot_by ps es q i = length (keep (λ j. has (mask_at ps es j) q) (up_to i))

-- a turn of a loop over the entities
pub slot_by_none : (ps : Parts) (es : List Entity) (q : ℕ) → slot_by ps es q 0 ≡ 0
unfolding slot_by
slot_by_none ps es q = kept_none (λ j. has (mask_at ps es j) q)

pub slot_by_suc : (ps : Parts) (es : List Entity) (q i : ℕ) → slot_by ps es q (i + 1) ≡ slot_by ps es q i + cond (has (mask_at ps es i) q) 1 0
unfolding slot_by
slot_by_suc ps es q i = rw (add-one i) (kept_suc (λ j. has (mask_at ps es j) q) i)

-- ---- lists read by their indices

module _ {A : Type 0} where
  -- the first i, read one by one
  pub take_read : (xs : List A) (i : ℕ) (d : A) → i ≤ length xs → take i xs ≡ map (λ j. get_or xs j d) (up_to i)
  take_read xs i d h =
      let n : length (take i xs) ≡ i = length-take-le i xs h in
      ext_get_or d (take i xs) (map (λ j. get_or xs j d) (up_to i)) (n ∙ sym (length-map (up_to i) (λ j. get_or xs j d) ∙ length_up_to i)) (λ j l.
      let l' : j < i = subst (λ (z : ℕ). j < z) n l in
      get_or-take i xs j d l'
      ∙ sym (get_or_map (λ j. get_or xs j d) (up_to i) j 0 d (subst (λ (z : ℕ). j < z) (sym (length_up_to i)) l') ∙ ap (λ (k : ℕ). get_or xs k d) (get_or_up_to i j 0 l')))

  pub keep-take : (f : A → Bool) (xs : List A) (i : ℕ) (d : A) → i ≤ length xs → keep f (take i xs) ≡ map (λ j. get_or xs j d) (keep (λ j. f (get_or xs j d)) (up_to i))
  keep-take f xs i d h = ap (keep f) (take_read xs i d h) ∙ keep_of_map f (λ j. get_or xs j d) (up_to i)

  pub keep_read : (f : A → Bool) (xs : List A) (d : A) → keep f xs ≡ map (λ j. get_or xs j d) (keep (λ j. f (get_or xs j d)) (up_to (length xs)))
  keep_read f xs d = ap (keep f) (sym (take-length xs)) ∙ keep-take f xs (length xs) d (omega arith)

  -- where keys ascend, one that is kept has as many before it as are kept of those before it
  pub index_kept : (key : A → ℕ) (f : A → Bool) (xs : List A) (i : ℕ) (d : A) → T (ascending (map key xs)) → i < length xs → T (f (get_or xs i d))
      → index_of (key (get_or xs i d)) (map key (keep f xs)) ≡ length (keep f (take i xs))
  unfolding keep index_of
  index_kept key f [] i d t h k = absurd (not-suc-le-zero h)
  index_kept key f (x ∷ xs) zero d t h k = rw (T_true (f x) k, T_true (eqb (key x) (key x)) (eqb_refl (key x)))
  index_kept key f (x ∷ xs) (suc i) d t h k =
      let a = get_or xs i d in
      let below : key x < key a = head_below key x xs t a (get_or_in xs i d (le_of_suc-le-suc h)) in
      go (f x) (ne_eqb (key a) (key x) (λ e. omega arith)) (index_kept key f xs i d (tail_ascends key x xs t) (le_of_suc-le-suc h) k)
    where
      go : (b : Bool) → eqb (key (get_or xs i d)) (key x) ≡ false → index_of (key (get_or xs i d)) (map key (keep f xs)) ≡ length (keep f (take i xs))
          → index_of (key (get_or xs i d)) (map key (cond b (x ∷ keep f xs) (keep f xs))) ≡ length (cond b (x ∷ keep f (take i xs)) (keep f (take i xs)))
      go true n e = rw n (ap suc e)
      go false n e = e

-- ---- any mesh, any placement

module _ (n : ℕ) (es : List Entity) (place : Placement) where
  -- an entity of the mesh is in part q where its name is in the closures of the objects there
  has-closures : (q : ℕ) → q < n → (e : Entity) → In e es → has (residence_in (spread n es place) (name e)) q ≡ member (name e) (closures es place q)
  has-closures q h e i =
      let c = closures es place q in
      let part = keep (λ e. member (name e) c) es in
      has-residence (spread n es place) (name e) q (subst (λ (z : ℕ). q < z) (sym (spread-length n es place)) h)
      ∙ ap (λ (l : List Entity). holds l (name e)) (spread-part n es place q h)
      ∙ iff_eq (holds part (name e)) (member (name e) c)
      (λ t. let w = holds_in part (name e) t in subst (λ (z : ℕ). T (member z c)) (sym w.2) (keep_in (λ e. member (name e) c) es w.0 w.1).1)
      (λ t. in_holds part e (in_keep (λ e. member (name e) c) es e i t))

  part-keep : (q : ℕ) → q < n → get_or (spread n es place) q [] ≡ keep (λ e. has (residence_in (spread n es place) (name e)) q) es
  part-keep q h =
      spread-part n es place q h
      ∙ keep_agree (λ e. member (name e) (closures es place q)) (λ e. has (residence_in (spread n es place) (name e)) q) es (λ e i. sym (has-closures q h e i))

  -- 1. a part holds, in their order, the entities that have its bit
  pub part_by_masks : (q : ℕ) → q < n
      → get_or (spread n es place) q [] ≡ map (λ i. get_or es i no_ent) (keep (λ i. has (mask_at (spread n es place) es i) q) (up_to (length es)))
  part_by_masks q h = part-keep q h ∙ keep_read (λ e. has (residence_in (spread n es place) (name e)) q) es no_ent

  -- and its rows are as many as there are such
  pub length_by_masks : (q : ℕ) → q < n → length (get_or (spread n es place) q []) ≡ slot_by (spread n es place) es q (length es)
  unfolding slot_by
  length_by_masks q h =
      ap length (part_by_masks q h) ∙ length-map (keep (λ i. has (mask_at (spread n es place) es i) q) (up_to (length es))) (λ i. get_or es i no_ent)

  -- 2. a slot is how many before it have the bit
  pub slot_by_masks : T (ascending (map name es)) → (q i : ℕ) → q < n → i < length es → T (has (mask_at (spread n es place) es i) q)
      → slot_in (get_or (spread n es place) q []) (name (get_or es i no_ent)) ≡ slot_by (spread n es place) es q i
  unfolding slot_in slot_by
  slot_by_masks up q i h l t =
      let f : Entity → Bool = λ e. has (residence_in (spread n es place) (name e)) q in
      ap (λ (part : List Entity). index_of (name (get_or es i no_ent)) (map name part)) (part-keep q h)
      ∙ index_kept name f es i no_ent up l t
      ∙ ap length (keep-take f es i no_ent (omega arith))
      ∙ length-map (keep (λ j. f (get_or es j no_ent)) (up_to i)) (λ j. get_or es j no_ent)

  -- 3. a set is that of the parts of the objects whose closures the entity is in
  pub mask_by_closures : (q i : ℕ) → q < n → i < length es
      → has (mask_at (spread n es place) es i) q ≡ some? (λ o. eqb (place (name o)) q && member (name (get_or es i no_ent)) (closure o.dim es o.number)) (objects es)
  unfolding closures
  mask_by_closures q i h l =
      let k = name (get_or es i no_ent) in
      let at : Entity → Bool = λ o. eqb (place (name o)) q in
      let cl : Entity → List ℕ = λ o. closure o.dim es o.number in
      has-closures q h (get_or es i no_ent) (get_or_in es i no_ent l)
      ∙ iff_eq (member k (flat (map cl (keep at (objects es))))) (some? (λ o. at o && member k (cl o)) (objects es))
      (λ t. let w = flat_map_in cl (keep at (objects es)) k (member_in k (flat (map cl (keep at (objects es)))) t) in
      let v = keep_in at (objects es) w.0 w.1 in
      in_some (λ o. at o && member k (cl o)) (objects es) w.0 v.0 (both (at w.0) (member k (cl w.0)) v.1 (in_member k (cl w.0) w.2)))
      (λ t. let w = some_in (λ o. at o && member k (cl o)) (objects es) t in
      let v = split2 (at w.0) (member k (cl w.0)) w.2 in
      in_member k (flat (map cl (keep at (objects es))))
      (in_flat_map cl (keep at (objects es)) w.0 k (in_keep at (objects es) w.0 w.1 v.0) (member_in k (cl w.0) v.1)))

  pub mask_lt : (i : ℕ) → mask_at (spread n es place) es i < 2 ^ n
  mask_lt i = subst (λ (z : ℕ). mask_at (spread n es place) es i < 2 ^ z) (spread-length n es place) (residence_lt (spread n es place) (name (get_or es i no_ent)))

-- ---- a mesh that fits, well placed

module _ (n : ℕ) (es : List Entity) (place : Placement) (W : WellPlaced n es place) where
  pub few_parts : n ≤ 64
  few_parts = leb→le n 64 W.few_parts

  -- every entity is in some part
  pub mask_some : (i : ℕ) → i < length es → (q : ℕ) × (q < n) × T (has (mask_at (spread n es place) es i) q)
  mask_some i l =
      let ps = spread n es place in
      let e = get_or es i no_ent in
      let w = mesh_in ps (spread_fit n es place W) e (subst (λ (fs : List Entity). In e fs) (sym (spread-mesh n es place W)) (get_or_in es i no_ent l)) in
      (w.0, subst (λ (z : ℕ). w.0 < z) (spread-length n es place) w.1, holds-residence ps w.0 e w.2)

  pub mask_not_none : (i : ℕ) → i < length es → mask_at (spread n es place) es i ≡ 0 → ⊥
  mask_not_none i l z =
      let w = mask_some i l in
      subst T (has_none w.0) (subst (λ (m : ℕ). T (has m w.0)) z w.2)

  pub slot_of : (q i : ℕ) → q < n → i < length es → T (has (mask_at (spread n es place) es i) q)
      → slot_in (get_or (spread n es place) q []) (name (get_or es i no_ent)) ≡ slot_by (spread n es place) es q i
  slot_of = slot_by_masks n es place (names_ascend n es place W)

  -- 4. the objects of a part are those that are placed there
  pub objects_by_places : (q : ℕ) → q < n → objects_in (spread n es place) q ≡ length (keep (λ o. eqb (place (name o)) q) (objects es))
  unfolding objects_in objects
  objects_by_places q h =
      let ps = spread n es place in
      let F = spread_fit n es place W in
      let part = get_or ps q [] in
      let here : Entity → Bool = λ o. eqb (place (name o)) q in
      ap length (ascending_ext name (keep (λ e. is_object (flat ps) (name e)) part) (keep here (keep (λ e. is_object es (name e)) es))
      (keep-ascends name (λ e. is_object (flat ps) (name e)) part (F.ascends q))
      (keep-ascends name here (keep (λ e. is_object es (name e)) es) (keep-ascends name (λ e. is_object es (name e)) es (names_ascend n es place W)))
      (λ e i. let w = keep_in (λ e. is_object (flat ps) (name e)) part e i in
      let m : In e es = (spread_in n es place q e w.0).1 in
      let t : T (is_object es (name e)) = subst T (object_is (name e)) w.1 in
      in_keep here (keep (λ e. is_object es (name e)) es) e (in_keep (λ e. is_object es (name e)) es e m t)
      (eq-eqb (place (name e)) q (sym ((placed e m t).1 q w.0))))
      (λ e i. let w = keep_in here (keep (λ e. is_object es (name e)) es) e i in
      let v = keep_in (λ e. is_object es (name e)) es e w.0 in
      in_keep (λ e. is_object (flat ps) (name e)) part e (subst (λ (z : ℕ). In e (get_or ps z [])) (eqb→eq (place (name e)) q w.1) (placed e v.0 v.1).0)
      (subst T (sym (object_is (name e))) v.1)))
    where
      object_is : (k : ℕ) → is_object (flat (spread n es place)) k ≡ is_object es k
      object_is k = mesh_object (spread n es place) (spread_fit n es place W) k ∙ ap (λ (fs : List Entity). is_object fs k) (spread-mesh n es place W)

      placed : (e : Entity) → In e es → T (is_object es (name e))
          → In e (get_or (spread n es place) (place (name e)) []) × ((p : ℕ) → In e (get_or (spread n es place) p []) → p ≡ place (name e))
      placed e i t =
          let is = spread-mesh n es place W in
          object_in (spread n es place) (spread_fit n es place W) place
          (subst (λ (fs : List Entity). places_of fs (place_in (spread n es place)) ≡ places_of fs place) (sym is) (spread-places n es place W)) e
          (subst (λ (fs : List Entity). In e fs) (sym is) i) (subst (λ (fs : List Entity). T (is_object fs (name e))) (sym is) t)
