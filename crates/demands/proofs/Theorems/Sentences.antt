-- The sentences of demands 2 and 3, said of one accepted image that holds a mesh, each object where a placement says: where its entities are,
-- and what its rows say of residence, owner and copies. Demand2 and Demand3 say them of what a migration and a history leave.
-- Assumes nothing.
use Prim.Native.Nat.{ℕ, ◌<◌}
use native.Mathlib.Omega.{arith}
use mathlib.Core.Path.{◌≡◌, sym, ap, ap₂, ◌∙◌, subst}
use mathlib.Core.List.{List, []}
use lib.ListN.{length, get_or}
use lib.Dec.{T, eqb→eq}
use lib.Pow.{are_bytes}
use Rattle.laws.specs.Lists.{In}
use Rattle.part_set.specs.Masks.{others, parts_in}
use Rattle.paper.specs.Image.{Set, row_at}
use Rattle.paper.specs.Mesh.{Entity, Parts, name, bounds, is_object, owner_among, ent_of, parts_of}
use Rattle.paper.specs.Sound.{name_of_row, resides_well, owned_well}
use Rattle.paper.specs.Placement.{Placement, spread, rows_for, places_of, residence_in}
use Rattle.laws.proofs.Members.{part_lt}
use Rattle.part_set.proofs.MaskParts.{parts_in_ascends, in_parts_in}
use Rattle.paper.proofs.Outcomes.{accepted_inj}
use Rattle.demands.proofs.Entities.Owners.{Poorest, owner_poorest}
use Rattle.demands.proofs.Mesh.Places.{spread_same}
use Rattle.demands.proofs.Mesh.Spread.{Under, spread_in, in_spread}
use Rattle.demands.proofs.Fit.Record.{Fit}
use Rattle.demands.proofs.Fit.Where.{bounded_in, lower_in, object_in}
use Rattle.demands.proofs.Sound.Facts.{Each, Sound, sound_inv}
use Rattle.demands.proofs.Sound.Rows.{row, ent, parts_count, Twin, twin, in_part_lem, row-fields}
use Rattle.demands.proofs.Sound.ToFit.{sound_fit, small_part}
use Rattle.demands.proofs.Sound.Canonical.{sound_canon, mask_is}
use Rattle.demands.proofs.Theorems.Statements.{Accepts, mesh, places, OnlyIn, Iff}
use Rattle.demands.proofs.Theorems.T1.{theorem_1}
use Rattle.demands.proofs.Theorems.Now.{Now}

-- ---- any accepted image

module _ (b : List ℕ) (S : Set) (y : T (are_bytes b)) (a : Accepts b S) where
  is_sound : Sound S
  is_sound = (sound_inv b S y a).0

  pub is_fit : Fit (parts_of S)
  is_fit = sound_fit S is_sound

  -- order, slots, residence sets and owners follow from the entities of each part
  pub rows_follow : S ≡ rows_for (parts_of S)
  rows_follow = sound_canon S is_sound

  -- the residence set of a row is exactly the mask of the parts that hold its name
  pub residence-holds : Each S (λ p s. (row_at S p s).mask ≡ residence_in (parts_of S) (name_of_row (row_at S p s)))
  unfolding row_at ent_of
  residence-holds p s h = sym (mask_is S is_sound p s h)

  -- rule 11, the residence equation
  pub residence_union : Each S (λ p s. T (resides_well S p s))
  residence_union = is_sound.residence

  -- rule 12, the owner, counted in these parts
  pub owner_rule : Each S (λ p s. (row_at S p s).owner ≡ owner_among (parts_of S) (parts_in (row_at S p s).mask))
  unfolding owned_well
  owner_rule p s h = eqb→eq (row_at S p s).owner (owner_among (parts_of S) (parts_in (row_at S p s).mask)) (is_sound.owner p s h)

  -- of the residence parts, the one with the fewest objects; of equals, the smallest number
  pub owner_poor : Each S (λ p s. Poorest (parts_of S) (parts_in (row_at S p s).mask) (row_at S p s).owner)
  unfolding row_at
  owner_poor p s h =
      let m = (row S p s).mask in
      subst (Poorest (parts_of S) (parts_in m)) (sym (owner_rule p s h)) (owner_poorest (parts_of S) (parts_in m) (parts_in_ascends m) p
      (in_parts_in m p (small_part S is_sound.copied p (ent S p s) (in_part_lem S p s h)) (row-fields S is_sound.copied p s h).own))

  -- rule 10, the copies
  pub copy_agrees : (p s q : ℕ) → s < length (get_or S p []) → In q (others (row_at S p s).mask p) → Twin S p s q
  unfolding row_at
  copy_agrees p s q h i = twin S is_sound.copied p s q h i

-- ---- an image that holds a mesh, each object where a placement says

module _ (n : ℕ) (es : List Entity) (place : Placement) (b : List ℕ) (s : Now n es place b) (S : Set) (a : Accepts b S) where
  set_is : s.set ≡ S
  set_is = accepted_inj (sym s.accepts ∙ a)

  pub count_is : length S ≡ n
  count_is = ap length (sym set_is) ∙ s.count

  pub mesh_is : mesh S ≡ es
  mesh_is = ap mesh (sym set_is) ∙ s.whole

  pub places_are : places_of es (places S) ≡ places_of es place
  places_are = ap (λ (X : Set). places_of es (places X)) (sym set_is) ∙ s.placed

  pub parts_are : parts_of S ≡ spread n es place
  parts_are =
      (theorem_1 b S s.is_bytes a).parts ∙ ap₂ (λ (k : ℕ) (fs : List Entity). spread k fs (places S)) count_is mesh_is ∙ spread_same n es (places S) place places_are

  fit : Fit (parts_of S)
  fit = is_fit b S s.is_bytes a

  in_its_mesh : (e : Entity) → In e es → In e (mesh S)
  in_its_mesh e i = subst (λ (fs : List Entity). In e fs) (sym mesh_is) i

  -- an object is in the part where it is placed, and in no other
  pub object_only : (e : Entity) → In e es → T (is_object es (name e)) → OnlyIn (parts_of S) (place (name e)) e
  object_only e i t =
      object_in (parts_of S) fit place (subst (λ (fs : List Entity). places_of fs (places S) ≡ places_of fs place) (sym mesh_is) places_are) e (in_its_mesh e i)
      (subst (λ (fs : List Entity). T (is_object fs (name e))) (sym mesh_is) t)

  -- a part holds exactly the closures of its objects
  pub part-closures : (e : Entity) (p : ℕ) → Iff (In e (get_or (parts_of S) p [])) (In e es × Under es place p (name e))
  part-closures e p = (
    λ i. let w = spread_in n es place p e (subst (λ (ps : Parts). In e (get_or ps p [])) parts_are i) in (w.1, w.2),
    λ w. subst (λ (ps : Parts). In e (get_or ps p [])) (sym parts_are) (in_spread n es place p e (there w.1) w.0 w.1),
  )
    where
      there : Under es place p (name e) → p < n
      there u =
          let i = (object_only u.top u.in_mesh u.object).0 in
          omega (arith, part_lt (parts_of S) (place (name u.top)) u.top i, parts_count S, count_is, u.placed)

  -- an entity that is no object is in exactly the parts where something that it bounds is
  pub lower_where : (e : Entity) (p : ℕ) → In e es → (T (is_object es (name e)) → ⊥)
      → Iff (In e (get_or (parts_of S) p [])) ((f : Entity) × In f (get_or (parts_of S) p []) × T (bounds (name e) f))
  lower_where e p i no_object = (
    lower_in (parts_of S) fit p e (λ t. no_object (subst (λ (fs : List Entity). T (is_object fs (name e))) mesh_is t)),
    λ f. bounded_in (parts_of S) fit p e f.0 (in_its_mesh e i) f.1 f.2,
  )
