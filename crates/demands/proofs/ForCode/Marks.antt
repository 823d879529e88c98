-- The residence sets that a placement gives to the entities of a sound set, worked out in the rows: each object's row marks, in its own part, the
-- slots of its closure with the part where the object goes; the set of an entity is the union of the marks of its copies.
-- How code uses it: a pass over the rows that are not covered sets bit `place` at the slots of `slot_closure`; then a pass over the entities, each
-- by one of its rows, joins the words at the slots of its copies (`copy_slot`), and that is the entity's new set (`mask_by_copies`).
-- Assumes nothing.
use Prim.Native.Nat.{ℕ, ◌<◌}
use native.Mathlib.Omega.{arith}
use mathlib.Core.Path.{◌≡◌, refl, sym, ap, ◌∙◌, subst}
use mathlib.Core.Bool.{Bool, not, cond, ◌&&◌}
use mathlib.Core.Logic.{◌⊎◌, inl, inr}
use mathlib.Core.List.{List, [], map}
use lib.ListN.{length, get_or}
use lib.Dec.{T, eqb, eqb→eq, T_not}
use Rattle.laws.specs.Lists.{In, some?, flat, up_to, member}
use Rattle.part_set.specs.Masks.{has, parts_in}
use Rattle.paper.specs.Image.{Set, row_at}
use Rattle.paper.specs.Mesh.{Entity, name, ent_of, parts_of, mesh_of, is_object, closure, holds, slot_in, no_ent}
use Rattle.paper.specs.Sound.{name_of_row, remote_slot_of}
use Rattle.paper.specs.Placement.{Placement, objects, spread}
use Rattle.laws.proofs.Tests.{iff_eq, both, split2, split3, join3, decide, T_true, ne_eqb, eq-eqb}
use Rattle.laws.proofs.Members.{some_in, in_some, get_or_in}
use Rattle.laws.proofs.Ranges.{in_up_to, up_to_in}
use Rattle.part_set.proofs.MaskParts.{has_lt, parts_in_in, in_parts_in, in_others}
use Rattle.demands.proofs.Entities.Names.{in_holds}
use Rattle.laws.proofs.Keyed.{ascends_uniq}
use Rattle.demands.proofs.Entities.Sorted.{sort_ascends}
use Rattle.demands.proofs.Rows.ReadBack.{slot_lt, slot_name}
use Rattle.demands.proofs.Mesh.Spread.{objects_in_lem, in_objects}
use Rattle.demands.proofs.Sound.Facts.{Sound}
use Rattle.demands.proofs.Sound.Rows.{row, ent, parts_count, part_in, in_part_lem, row-fields, slot_is, twin, held-has, has_in}
use Rattle.demands.proofs.Sound.ToFit.{sound_fit}
use Rattle.demands.proofs.Fit.ToMesh.{in_mesh, mesh_in, mesh_object}
use Rattle.demands.proofs.ForCode.Covered.{covered, row_object}
use Rattle.demands.proofs.ForCode.Spread.{mask_at, mask_by_closures}
use Rattle.demands.proofs.ForCode.SlotClosures.{slot_closure, closure_names, closure_copy}

-- row s of part p marks slot t with q: it is an object's that goes to part q, and t is in its closure
abbrev pub marks : Set → Placement → ℕ → ℕ → ℕ → ℕ → Bool
marks S place p q t s =
    not (covered S p (name_of_row (row S p s))) && eqb (place (name_of_row (row S p s))) q && member t (slot_closure (row S p s).dim (get_or S p []) s)

-- slot t of part p is marked with q
unfoldable pub marked : Set → Placement → ℕ → ℕ → ℕ → Bool
marked S place p q t = some? (marks S place p q t) (up_to (length (get_or S p [])))

-- the slot in part r of the copy of row s of part p
unfoldable pub copy_slot : Set → ℕ → ℕ → ℕ → ℕ
copy_slot S p s r = cond (eqb r p) s (remote_slot_of (row S p s) p r)

module _ (S : Set) (f : Sound S) where
  abbrev mesh : List Entity
  mesh = mesh_of (parts_of S)

  -- a row is an object's where no row of its part covers it
  pub row_is_object : (p s : ℕ) → s < length (get_or S p []) → is_object (mesh_of (parts_of S)) (name (ent S p s)) ≡ not (covered S p (name_of_row (row S p s)))
  unfolding ent_of row_at
  row_is_object p s h = sym (mesh_object (parts_of S) (sound_fit S f) (name (ent S p s))) ∙ row_object S f.copied f.residence p s h

  -- a row's entity stands in the mesh at the place of its name
  pub row_index : (p s : ℕ) → s < length (get_or S p []) → let i = slot_in (mesh_of (parts_of S)) (name_of_row (row S p s)) in
      (i < length (mesh_of (parts_of S))) × (get_or (mesh_of (parts_of S)) i no_ent ≡ ent S p s)
  unfolding ent_of mesh_of
  row_index p s h =
      let k = name (ent S p s) in
      let m : In (ent S p s) mesh = in_mesh (parts_of S) (sound_fit S f) p (ent S p s) (in_part_lem S p s h) in
      let held = in_holds mesh (ent S p s) m in
      let l = slot_lt mesh k held in
      (l, ascends_uniq name mesh (sort_ascends (flat (parts_of S))) (get_or mesh (slot_in mesh k) no_ent) (ent S p s) (get_or_in mesh (slot_in mesh k) no_ent l) m (slot_name mesh k held))

  -- the slot of a copy is that of its name
  pub copy_slot_lem : (p s r : ℕ) → s < length (get_or S p []) → T (has (row S p s).mask r) → slot_in (get_or (parts_of S) r []) (name_of_row (row S p s)) ≡ copy_slot S p s r
  unfolding copy_slot ent_of
  copy_slot_lem p s r h t = go (decide (eqb r p))
    where
      go : T (eqb r p) ⊎ T (not (eqb r p)) → slot_in (get_or (parts_of S) r []) (name (ent S p s)) ≡ cond (eqb r p) s (remote_slot_of (row S p s) p r)
      go (inl e) =
          ap (λ (z : ℕ). slot_in (get_or (parts_of S) z []) (name (ent S p s))) (eqb→eq r p e) ∙ slot_is S f.copied p s h
          ∙ sym (ap (λ (b : Bool). cond b s (remote_slot_of (row S p s) p r)) (T_true (eqb r p) e))
      go (inr ne) =
          let apart : r ≡ p → ⊥ = λ e. T_not (eqb r p) ne (eq-eqb r p e) in
          let l = has_lt (length S) (row S p s).mask r (row-fields S f.copied p s h).mask t in
          let w = twin S f.copied p s r h (in_others (row S p s).mask p r (omega (arith, f.copied.few_parts)) t apart) in
          ap (λ (e : Entity). slot_in (get_or (parts_of S) r []) (name e)) w.ent-same
          ∙ slot_is S f.copied r (remote_slot_of (row S p s) p r) w.slot
          ∙ sym (ap (λ (b : Bool). cond b s (remote_slot_of (row S p s) p r)) (ne_eqb r p apart))

  module _ (place : Placement) (n q i : ℕ) (hq : q < n) (hi : i < length (mesh_of (parts_of S))) where
    k : ℕ
    k = name (get_or (mesh_of (parts_of S)) i no_ent)

    -- a part that holds the entity, and marks its slot there
    abbrev at_part : ℕ → Bool
    at_part p = holds (get_or (parts_of S) p []) k && marked S place p q (slot_in (get_or (parts_of S) p []) k)

    -- an object that goes to q, with the entity in its closure
    abbrev above : Entity → Bool
    above o = eqb (place (name o)) q && member k (closure o.dim mesh o.number)

    to : (o : Entity) → In o (objects mesh) → T (above o) → T (some? at_part (up_to (length S)))
    unfolding ent_of marked
    to o i' t =
        let w = objects_in_lem mesh o i' in
        let v = mesh_in (parts_of S) (sound_fit S f) o w.0 in
        let p = v.0 in
        let u = part_in S p o v.2 in
        let s = u.0 in
        let t' = split2 (eqb (place (name_of_row (row S p s))) q) (member k (closure (row S p s).dim mesh (row S p s).number)) (subst (λ (e : Entity). T (above e)) u.2 t) in
        let part = get_or (parts_of S) p [] in
        let cl = slot_closure (row S p s).dim (get_or S p []) s in
        let c = split2 (holds part k) (member (slot_in part k) cl) (subst T (closure_copy S f p (row S p s).dim s k u.1 refl) t'.1) in
        let open' : T (not (covered S p (name_of_row (row S p s)))) = subst T (row_is_object p s u.1) (subst (λ (e : Entity). T (is_object mesh (name e))) u.2 w.1) in
        in_some at_part (up_to (length S)) p (in_up_to (length S) p (subst (λ (z : ℕ). p < z) (parts_count S) v.1))
        (both (holds part k) (marked S place p q (slot_in part k)) c.0
        (in_some (marks S place p q (slot_in part k)) (up_to (length (get_or S p []))) s (in_up_to (length (get_or S p [])) s u.1)
        (join3 (not (covered S p (name_of_row (row S p s)))) (eqb (place (name_of_row (row S p s))) q) (member (slot_in part k) cl) (open', t'.0, c.1))))

    fro : (p : ℕ) → T (at_part p) → T (some? above (objects mesh))
    unfolding ent_of marked
    fro p t =
        let part = get_or (parts_of S) p [] in
        let rows = up_to (length (get_or S p [])) in
        let v = split2 (holds part k) (marked S place p q (slot_in part k)) t in
        let w = some_in (marks S place p q (slot_in part k)) rows v.1 in
        let s = w.0 in
        let h = up_to_in (length (get_or S p [])) s w.1 in
        let cl = slot_closure (row S p s).dim (get_or S p []) s in
        let u = split3 (not (covered S p (name_of_row (row S p s)))) (eqb (place (name_of_row (row S p s))) q) (member (slot_in part k) cl) w.2 in
        in_some above (objects mesh) (ent S p s)
        (in_objects mesh (ent S p s) (in_mesh (parts_of S) (sound_fit S f) p (ent S p s) (in_part_lem S p s h)) (subst T (sym (row_is_object p s h)) u.0))
        (both (eqb (place (name_of_row (row S p s))) q) (member k (closure (row S p s).dim mesh (row S p s).number)) u.1
        (subst T (sym (closure_copy S f p (row S p s).dim s k h refl)) (both (holds part k) (member (slot_in part k) cl) v.0 u.2)))

    -- the set of an entity, by the marks in the parts that hold it
    pub mask_by_marks : let k = name (get_or (mesh_of (parts_of S)) i no_ent) in
        has (mask_at (spread n (mesh_of (parts_of S)) place) (mesh_of (parts_of S)) i) q
        ≡ some? (λ p. holds (get_or (parts_of S) p []) k && marked S place p q (slot_in (get_or (parts_of S) p []) k)) (up_to (length S))
    unfolding k
    mask_by_marks =
        mask_by_closures n mesh place q i hq hi
        ∙ iff_eq (some? above (objects mesh)) (some? at_part (up_to (length S)))
        (λ t. let w = some_in above (objects mesh) t in to w.0 w.1 w.2)
        (λ t. let w = some_in at_part (up_to (length S)) t in fro w.0 w.2)

    -- an object's row in part p that goes to q, with the entity among the rows of its closure
    abbrev at_row : ℕ → ℕ → Bool
    at_row p s =
        not (covered S p (name_of_row (row S p s))) && eqb (place (name_of_row (row S p s))) q && member k (map (λ t. name_of_row (row S p t)) (slot_closure (row S p s).dim (get_or S p []) s))

    to_row : (o : Entity) → In o (objects mesh) → T (above o) → T (some? (λ p. some? (at_row p) (up_to (length (get_or S p [])))) (up_to (length S)))
    unfolding ent_of
    to_row o i' t =
        let w = objects_in_lem mesh o i' in
        let v = mesh_in (parts_of S) (sound_fit S f) o w.0 in
        let p = v.0 in
        let u = part_in S p o v.2 in
        let s = u.0 in
        let t' = split2 (eqb (place (name_of_row (row S p s))) q) (member k (closure (row S p s).dim mesh (row S p s).number)) (subst (λ (e : Entity). T (above e)) u.2 t) in
        let names = map (λ t. name_of_row (row S p t)) (slot_closure (row S p s).dim (get_or S p []) s) in
        let open' : T (not (covered S p (name_of_row (row S p s)))) = subst T (row_is_object p s u.1) (subst (λ (e : Entity). T (is_object mesh (name e))) u.2 w.1) in
        in_some (λ p. some? (at_row p) (up_to (length (get_or S p [])))) (up_to (length S)) p (in_up_to (length S) p (subst (λ (z : ℕ). p < z) (parts_count S) v.1))
        (in_some (at_row p) (up_to (length (get_or S p []))) s (in_up_to (length (get_or S p [])) s u.1)
        (join3 (not (covered S p (name_of_row (row S p s)))) (eqb (place (name_of_row (row S p s))) q) (member k names)
        (open', t'.0, subst (λ (l : List ℕ). T (member k l)) (closure_names S f p (row S p s).dim s u.1 refl) t'.1)))

    fro_row : (p s : ℕ) → s < length (get_or S p []) → T (at_row p s) → T (some? above (objects mesh))
    unfolding ent_of
    fro_row p s h t =
        let names = map (λ t. name_of_row (row S p t)) (slot_closure (row S p s).dim (get_or S p []) s) in
        let u = split3 (not (covered S p (name_of_row (row S p s)))) (eqb (place (name_of_row (row S p s))) q) (member k names) t in
        in_some above (objects mesh) (ent S p s)
        (in_objects mesh (ent S p s) (in_mesh (parts_of S) (sound_fit S f) p (ent S p s) (in_part_lem S p s h)) (subst T (sym (row_is_object p s h)) u.0))
        (both (eqb (place (name_of_row (row S p s))) q) (member k (closure (row S p s).dim mesh (row S p s).number)) u.1
        (subst (λ (l : List ℕ). T (member k l)) (sym (closure_names S f p (row S p s).dim s h refl)) u.2))

    -- the same with no slot of the entity in sight: by the names of the rows that the walks from the objects' rows meet
    pub mask_by_names : let k = name (get_or (mesh_of (parts_of S)) i no_ent) in
        has (mask_at (spread n (mesh_of (parts_of S)) place) (mesh_of (parts_of S)) i) q
        ≡ some? (λ p. some? (λ s. not (covered S p (name_of_row (row S p s))) && eqb (place (name_of_row (row S p s))) q
        && member k (map (λ t. name_of_row (row S p t)) (slot_closure (row S p s).dim (get_or S p []) s))) (up_to (length (get_or S p [])))) (up_to (length S))
    unfolding k
    mask_by_names =
        let in-part' : ℕ → Bool = λ p. some? (at_row p) (up_to (length (get_or S p []))) in
        mask_by_closures n mesh place q i hq hi
        ∙ iff_eq (some? above (objects mesh)) (some? in-part' (up_to (length S)))
        (λ t. let w = some_in above (objects mesh) t in to_row w.0 w.1 w.2)
        (λ t. let w = some_in in-part' (up_to (length S)) t in
        let v = some_in (at_row w.0) (up_to (length (get_or S w.0 []))) w.2 in
        fro_row w.0 v.0 (up_to_in (length (get_or S w.0 [])) v.0 v.1) v.2)

    -- by the marks at the slots of the copies of any row of it
    pub mask_by_copies : (p s : ℕ) → s < length (get_or S p []) → get_or (mesh_of (parts_of S)) i no_ent ≡ ent S p s
        → has (mask_at (spread n (mesh_of (parts_of S)) place) (mesh_of (parts_of S)) i) q ≡ some? (λ r. marked S place r q (copy_slot S p s r)) (parts_in (row S p s).mask)
    unfolding k ent_of
    mask_by_copies p s h is =
        let m = (row S p s).mask in
        let on : ℕ → Bool = λ r. marked S place r q (copy_slot S p s r) in
        let named : k ≡ name_of_row (row S p s) = ap name is in
        let slot : (r : ℕ) → T (has m r) → slot_in (get_or (parts_of S) r []) k ≡ copy_slot S p s r =
        λ r t. ap (slot_in (get_or (parts_of S) r [])) named ∙ copy_slot_lem p s r h t in
        mask_by_marks
        ∙ iff_eq (some? at_part (up_to (length S))) (some? on (parts_in m))
        (λ t. let w = some_in at_part (up_to (length S)) t in
        let r = w.0 in
        let v = split2 (holds (get_or (parts_of S) r []) k) (marked S place r q (slot_in (get_or (parts_of S) r []) k)) w.2 in
        let b = held-has S f.copied p s r h (subst (λ (z : ℕ). T (holds (get_or (parts_of S) r []) z)) named v.0) in
        let l = up_to_in (length S) r w.1 in
        in_some on (parts_in m) r (in_parts_in m r (omega (arith, f.copied.few_parts)) b) (subst (λ (z : ℕ). T (marked S place r q z)) (slot r b) v.1))
        (λ t. let w = some_in on (parts_in m) t in
        let r = w.0 in
        let b = (parts_in_in m r w.1).1 in
        in_some at_part (up_to (length S)) r (in_up_to (length S) r (has_lt (length S) m r (row-fields S f.copied p s h).mask b))
        (both (holds (get_or (parts_of S) r []) k) (marked S place r q (slot_in (get_or (parts_of S) r []) k))
        (subst (λ (z : ℕ). T (holds (get_or (parts_of S) r []) z)) (sym named) (in_holds (get_or (parts_of S) r []) (ent S p s) (has_in S f.copied p s r h b)))
        (subst (λ (z : ℕ). T (marked S place r q z)) (sym (slot r b)) w.2)))
