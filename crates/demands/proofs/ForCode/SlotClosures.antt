-- Closures by slots: the closure of a row, worked out from slot to slot in its own part, is the closure of its entity in the whole mesh.
-- How code uses it: from the row of an object the walk goes down the slots of the bodies, in one part and with no search for a name; the slots that
-- it meets are the rows of the entities in the object's closure, and each such entity has a row there (`closure_copy`).
-- Assumes nothing.
use Prim.Native.Nat.{ℕ, zero, suc, ◌<◌}
use native.Mathlib.Omega.{arith}
use mathlib.Core.Path.{◌≡◌, refl, sym, ap, ap₂, ◌∙◌, subst}
use mathlib.Core.Bool.{◌&&◌}
use mathlib.Core.Logic.{inl, inr}
use mathlib.Core.List.{List, [], ◌∷◌, ◌++◌, map}
use lib.ListN.{length, get_or, length-map}
use lib.Dec.{T}
use Rattle.laws.specs.Lists.{In, flat, member}
use Rattle.paper.specs.Image.{Row, Set, no_row}
use Rattle.paper.specs.Mesh.{Entity, name_of, name, slots_of, shape_of, ent_of, parts_of, mesh_of, shape_in, closure, holds, slot_in}
use Rattle.paper.specs.Sound.{name_of_row}
use Rattle.laws.proofs.Tests.{iff_eq, both, split2}
use Rattle.laws.proofs.Members.{map_in, flat_map_in, member_in}
use Rattle.laws.proofs.Agree.{map_same, map_of_map, get_or_map}
use Rattle.laws.proofs.Ascending.{asc_get_or}
use Rattle.laws.proofs.Keyed.{ascends_uniq}
use Rattle.laws.proofs.Increasing.{member_after}
use Rattle.demands.proofs.Entities.Names.{Uniq, holds_in, in_holds}
use Rattle.demands.proofs.Entities.Sorted.{sort_ascends}
use Rattle.demands.proofs.Entities.Closed.{look}
use Rattle.demands.proofs.Sound.Facts.{Sound}
use Rattle.demands.proofs.Sound.Rows.{row, ent, in_part_lem, part_in, slot_is, rows_ascend}
use Rattle.demands.proofs.Sound.ToFit.{row-slots, sound_fit}
use Rattle.demands.proofs.Fit.ToMesh.{in_mesh}
use Rattle.demands.proofs.ForCode.Slots.{slots_at}

-- the slots of the closure of row s, of dimension d: itself and the closures of the rows that it names
unfoldable pub slot_closure : ℕ → List Row → ℕ → List ℕ
slot_closure zero rows s = s ∷ []
slot_closure (suc d) rows s = s ∷ flat (map (slot_closure d rows) (slots_at rows (suc d) s))

pub map-append : {A B : Type 0} (g : A → B) (xs ys : List A) → map g (xs ++ ys) ≡ map g xs ++ map g ys
map-append g [] ys = refl
map-append {B} g (x ∷ xs) ys = ap (λ (l : List B). g x ∷ l) (map-append g xs ys)

map-flat : {A B : Type 0} (g : A → B) (xss : List (List A)) → map g (flat xss) ≡ flat (map (map g) xss)
unfolding flat
map-flat g [] = refl
map-flat {B} g (xs ∷ xss) = map-append g xs (flat xss) ∙ ap (λ (l : List B). map g xs ++ l) (map-flat g xss)

module _ (S : Set) (f : Sound S) (p : ℕ) where
  abbrev rows : List Row
  rows = get_or S p []

  abbrev mesh : List Entity
  mesh = mesh_of (parts_of S)

  abbrev num : ℕ → ℕ
  num t = (get_or rows t no_row).number

  abbrev nm : ℕ → ℕ
  nm t = name_of_row (get_or rows t no_row)

  -- t is the slot of a row of dimension d
  abbrev At : ℕ → ℕ → Type 0
  At d t = (t < length rows) × ((get_or rows t no_row).dim ≡ d)

  mesh_uniq : Uniq mesh
  unfolding mesh_of
  mesh_uniq = ascends_uniq name (mesh_of (parts_of S)) (sort_ascends (flat (parts_of S)))

  names_up : (a b : ℕ) → a < length rows → b < length rows → a < b → nm a < nm b
  names_up a b ha hb l =
      omega (
        arith,
        asc_get_or (map name_of_row rows) (rows_ascend rows (f.copied.order p)) a b l (subst (λ (z : ℕ). b < z) (sym (length-map rows name_of_row)) hb),
        get_or_map name_of_row rows a no_row 0 ha,
        get_or_map name_of_row rows b no_row 0 hb,
      )

  faces_at_lem : (d s : ℕ) → At (suc d) s → (t : ℕ) → In t (slots_at rows (suc d) s) → At d t
  unfolding slots_of
  faces_at_lem d s h t i = (row-slots S f.copied p s d h.0 h.1).there t i

  shape_at : (d s : ℕ) → At (suc d) s → shape_in mesh (suc d) (num s) ≡ map num (slots_at rows (suc d) s)
  unfolding ent_of shape_of
  shape_at d s h =
      look mesh mesh_uniq (suc d) (ent S p s) (in_mesh (parts_of S) (sound_fit S f) p (ent S p s) (in_part_lem S p s h.0)) h.1
      ∙ ap (λ (z : ℕ). shape_of rows z (get_or rows s no_row).body) h.1

  -- the slots are there
  pub slot_closure_lt : (d s : ℕ) → s < length (get_or S p []) → (row S p s).dim ≡ d → (t : ℕ) → In t (slot_closure d (get_or S p []) s) → t < length (get_or S p [])
  unfolding slot_closure
  slot_closure_lt zero s h e t (inl q) = subst (λ (z : ℕ). z < length rows) (sym q) h
  slot_closure_lt zero s h e t (inr i) = absurd i
  slot_closure_lt (suc d) s h e t (inl q) = subst (λ (z : ℕ). z < length rows) (sym q) h
  slot_closure_lt (suc d) s h e t (inr i) =
      let w = flat_map_in (slot_closure d rows) (slots_at rows (suc d) s) t i in
      let a = faces_at_lem d s (h, e) w.0 w.1 in
      slot_closure_lt d w.0 a.0 a.1 t w.2

  -- the names of the closure are those of the slots, in the same order
  pub closure_names : (d s : ℕ) → s < length (get_or S p []) → (row S p s).dim ≡ d
      → closure d (mesh_of (parts_of S)) (row S p s).number ≡ map (λ t. name_of_row (row S p t)) (slot_closure d (get_or S p []) s)
  unfolding closure slot_closure
  closure_names zero s h e = ap (λ (z : ℕ). name_of z (num s) ∷ []) (sym e)
  closure_names (suc d) s h e =
      let fs = slots_at rows (suc d) s in
      ap₂ {C = List ℕ} (λ (z : ℕ) (l : List ℕ). name_of z (num s) ∷ l) (sym e)
      (ap (λ (ks : List ℕ). flat (map (closure d mesh) ks)) (shape_at d s (h, e))
      ∙ ap flat (map_of_map (closure d mesh) num fs
      ∙ map_same (λ t. closure d mesh (num t)) (λ t. map nm (slot_closure d rows t)) fs (λ t i. let a = faces_at_lem d s (h, e) t i in closure_names d t a.0 a.1)
      ∙ sym (map_of_map (map nm) (slot_closure d rows) fs))
      ∙ sym (map-flat nm (map (slot_closure d rows) fs)))

  -- 6. a row's entity is in the closure where its slot is
  pub closure_slot : (d s t : ℕ) → s < length (get_or S p []) → (row S p s).dim ≡ d → t < length (get_or S p [])
      → member (name_of_row (row S p t)) (closure d (mesh_of (parts_of S)) (row S p s).number) ≡ member t (slot_closure d (get_or S p []) s)
  closure_slot d s t h e l =
      ap (member (nm t)) (closure_names d s h e) ∙ member_after (λ t. t < length rows) nm names_up t (slot_closure d rows s) l (slot_closure_lt d s h e)

  -- what is in the closure has a row in the part
  pub closure-held : (d s k : ℕ) → s < length (get_or S p []) → (row S p s).dim ≡ d → T (member k (closure d (mesh_of (parts_of S)) (row S p s).number))
      → T (holds (get_or (parts_of S) p []) k)
  unfolding ent_of
  closure-held d s k h e m =
      let xs = slot_closure d rows s in
      let w = map_in nm xs k (subst (λ (l : List ℕ). In k l) (closure_names d s h e) (member_in k (closure d mesh (num s)) m)) in
      subst (λ (z : ℕ). T (holds (get_or (parts_of S) p []) z)) (sym w.2) (in_holds (get_or (parts_of S) p []) (ent S p w.0) (in_part_lem S p w.0 (slot_closure_lt d s h e w.0 w.1)))

  -- of a name that the part holds
  closure_at : (d s k : ℕ) → s < length (get_or S p []) → (row S p s).dim ≡ d → T (holds (get_or (parts_of S) p []) k)
      → member k (closure d (mesh_of (parts_of S)) (row S p s).number) ≡ member (slot_in (get_or (parts_of S) p []) k) (slot_closure d (get_or S p []) s)
  unfolding ent_of
  closure_at d s k h e held =
      let part = get_or (parts_of S) p [] in
      let w = holds_in part k held in
      let v = part_in S p w.0 w.1 in
      let named : k ≡ name (ent S p v.0) = w.2 ∙ ap name v.2 in
      ap (λ (z : ℕ). member z (closure d mesh (num s))) named
      ∙ closure_slot d s v.0 h e v.1
      ∙ ap (λ (t : ℕ). member t (slot_closure d rows s)) (sym (ap (slot_in part) named ∙ slot_is S f.copied p v.0 v.1))

  -- over copies: a name is in the closure where the part has a row of it, and the slot of that row is in the closure by slots
  pub closure_copy : (d s k : ℕ) → s < length (get_or S p []) → (row S p s).dim ≡ d
      → member k (closure d (mesh_of (parts_of S)) (row S p s).number) ≡ (holds (get_or (parts_of S) p []) k && member (slot_in (get_or (parts_of S) p []) k) (slot_closure d (get_or S p []) s))
  closure_copy d s k h e =
      let part = get_or (parts_of S) p [] in
      let c = closure d mesh (num s) in
      let xs = slot_closure d rows s in
      iff_eq (member k c) (holds part k && member (slot_in part k) xs)
      (λ m. let held = closure-held d s k h e m in both (holds part k) (member (slot_in part k) xs) held (subst T (closure_at d s k h e held) m))
      (λ m. let v = split2 (holds part k) (member (slot_in part k) xs) m in subst T (sym (closure_at d s k h e v.0)) v.1)
