-- The lowest copies of a sound set, in the order of their names, are the entities of its mesh, one for one. Assumes nothing.
use Prim.Native.Nat.{ℕ, ◌+◌, ◌<◌}
use native.Mathlib.Omega.{arith}
use mathlib.Core.Path.{◌≡◌, refl, sym, ap, ◌∙◌, subst}
use mathlib.Core.Bool.{not}
use mathlib.Core.Logic.{◌⊎◌, inl, inr}
use mathlib.Core.List.{List, [], map}
use lib.ListN.{length, get_or, take, length-map}
use lib.Seq.{get_or-take, length-take-le}
use lib.Dec.{T, eqb, eqb→eq, T_not}
use Rattle.std.specs.Prelude.{Result}
use Rattle.laws.specs.Lists.{In, flat}
use Rattle.laws.proofs.Tests.{decide, eq-eqb}
use Rattle.laws.proofs.Members.{map_in, in_map, in_flat, flat_in, get_or_in}
use Rattle.laws.proofs.Agree.{get_or_map}
use Rattle.laws.proofs.Keyed.{asc_ext}
use Rattle.part_set.specs.Masks.{has, lowest_of}
use Rattle.part_set.proofs.MaskParts.{parts_in_in, in_others}
use Rattle.merge.specs.Runs.{key_in}
use Rattle.paper.specs.Image.{Set, row_at}
use Rattle.paper.specs.Mesh.{Entity, name, no_ent, ent_of, parts_of, mesh_of}
use Rattle.paper.specs.Sound.{remote_slot_of}
use Rattle.demands.proofs.Entities.Names.{Uniq}
use Rattle.demands.proofs.Entities.Sorted.{sort_in, in_sort, mesh-ascends}
use Rattle.demands.proofs.Sound.Facts.{Copied}
use Rattle.demands.proofs.Sound.Rows.{row, ent, part_in, in_part_lem, twin, agree}
use Rattle.index.specs.Index.{set_in, Indexed, Named}
use Rattle.paper.specs.declared.Rule.TheVariants.{Fields, Order, Copies}
use Rattle.paper.specs.Sound.{judged}
use Rattle.demands.specs.Passed.{Passed}
use Rattle.entities.specs.declared.Repeated.{Repeated}
use Rattle.entities.specs.LowestCopies.{is_low, by_name, LowRow, count_of, Entities}
use Rattle.rows.proofs.Laws.{part_there}
use Rattle.entities.proofs.Own.{own_in}
use Rattle.entities.proofs.Members.{listed_low, low_listed, entry_low}
use Rattle.entities.proofs.Distinct.{lowest_in, lowest_low, low_lowest, copies-ascending}

-- ---- the rules by name

module _ (S : Set) (f : Copied S) where
  fields_passed : Passed Fields S
  unfolding judged
  fields_passed = f.fields

  order_passed : Passed Order S
  unfolding judged
  order_passed = f.order

  copies_passed : Passed Copies S
  unfolding judged
  copies_passed = f.copies

-- ---- the mesh of a set whose copies agree

module _ (S : Set) (f : Copied S) where
  one-entity : Uniq (flat (parts_of S))
  one-entity e g i j n =
      let v = flat_in (parts_of S) e i in
      let w = flat_in (parts_of S) g j in
      agree S f v.0 w.0 e g v.2 w.2 n

  mesh_in : (e : Entity) → In e (mesh_of (parts_of S)) → (p : ℕ) × (s : ℕ) × (s < length (get_or S p [])) × (e ≡ ent S p s)
  unfolding mesh_of
  mesh_in e i =
      let v = flat_in (parts_of S) e (sort_in (flat (parts_of S)) e i) in
      let w = part_in S v.0 e v.2 in
      (v.0, w.0, w.1, w.2)

  in_mesh : (p s : ℕ) → s < length (get_or S p []) → In (ent S p s) (mesh_of (parts_of S))
  unfolding mesh_of
  in_mesh p s h = in_sort (flat (parts_of S)) one-entity (ent S p s) (in_flat (parts_of S) p (ent S p s) (in_part_lem S p s h))

  mesh-one : (e g : Entity) → In e (mesh_of (parts_of S)) → In g (mesh_of (parts_of S)) → name e ≡ name g → e ≡ g
  unfolding mesh_of
  mesh-one e g i j n = one-entity e g (sort_in (flat (parts_of S)) e i) (sort_in (flat (parts_of S)) g j) n

  -- every row has a lowest copy, which is the same entity
  lowest_copy : (p s : ℕ) → s < length (get_or S p []) → (q : ℕ) × (t : ℕ) × (t < length (get_or S q [])) × T (is_low S q t) × (ent S q t ≡ ent S p s)
  unfolding row_at
  lowest_copy p s h =
      let m = (row S p s).mask in
      let q = lowest_of m in
      let v = parts_in_in m q (lowest_in m p (own_in S (fields_passed S f) p s h f.few_parts)) in
      go (decide (eqb q p)) v.0 v.1
    where
      go : T (eqb (lowest_of (row S p s).mask) p) ⊎ T (not (eqb (lowest_of (row S p s).mask) p)) → lowest_of (row S p s).mask < 64
          → T (has (row S p s).mask (lowest_of (row S p s).mask))
          → (q : ℕ) × (t : ℕ) × (t < length (get_or S q [])) × T (is_low S q t) × (ent S q t ≡ ent S p s)
      go (inl e) l o = (p, s, h, lowest_low S p s (eqb→eq (lowest_of (row S p s).mask) p e), refl)
      go (inr ne) l o =
          let m = (row S p s).mask in
          let q = lowest_of m in
          let w = twin S f p s q h (in_others m p q l o (λ e. T_not (eqb q p) ne (eq-eqb q p e))) in
          let t = remote_slot_of (row S p s) p q in
          (q, t, w.slot, lowest_low S q t (ap lowest_of (sym w.mask_same)), sym w.ent-same)

-- ---- the list and the mesh

-- entry i is row `slot` of `part`, its lowest part, and entity i of the mesh
pub record EntityAt (S : Set) (starts ord : List ℕ) (i : ℕ) : Type 0 where
  pub part : ℕ
  pub slot : ℕ
  pub within : part < length S
  pub there : slot < length (get_or S part [])
  pub low : lowest_of (row_at S part slot).mask ≡ part
  pub is : get_or ord i 0 ≡ get_or starts part 0 + slot
  pub entity : ent_of (get_or S part []) (row_at S part slot) ≡ get_or (mesh_of (parts_of S)) i no_ent

module _ {b offs starts keys : List ℕ} {n : ℕ} (index : Indexed b offs starts n) (named : Named b starts keys) (f : Copied (set_in b)) where
  key_name : (g : ℕ) (w : LowRow (set_in b) starts n g) → key_in keys g ≡ name (ent (set_in b) w.part w.slot)
  unfolding ent_of row_at
  key_name g w = ap (key_in keys) w.is ∙ named.key w.part w.slot w.there

  keys_to : (k : ℕ) → In k (map (key_in keys) (by_name (set_in b) starts keys n)) → In k (map name (mesh_of (parts_of (set_in b))))
  keys_to k i =
      let S = set_in b in
      let v = map_in (key_in keys) (by_name S starts keys n) k i in
      let w = listed_low S starts keys n v.0 v.1 in
      subst (λ (z : ℕ). In z (map name (mesh_of (parts_of S)))) (sym (v.2 ∙ key_name v.0 w))
      (in_map name (mesh_of (parts_of S)) (ent S w.part w.slot) (in_mesh S f w.part w.slot w.there))

  keys_from : (k : ℕ) → In k (map name (mesh_of (parts_of (set_in b)))) → In k (map (key_in keys) (by_name (set_in b) starts keys n))
  unfolding ent_of row_at
  keys_from k i =
      let S = set_in b in
      let v = map_in name (mesh_of (parts_of S)) k i in
      let u = mesh_in S f v.0 v.1 in
      let w = lowest_copy S f u.0 u.1 u.2 in
      let q = w.0 in
      let t = w.1 in
      let e : key_in keys (get_or starts q 0 + t) ≡ k = named.key q t w.2 ∙ ap name w.4 ∙ ap name (sym u.3) ∙ sym v.2 in
      subst (λ (z : ℕ). In z (map (key_in keys) (by_name S starts keys n))) e
      (in_map (key_in keys) (by_name S starts keys n) (get_or starts q 0 + t) (low_listed S starts keys n q t (part_there index q t w.2) w.2 w.3))

  names_mesh : map (key_in keys) (by_name (set_in b) starts keys n) ≡ map name (mesh_of (parts_of (set_in b)))
  names_mesh =
      let S = set_in b in
      asc_ext (map (key_in keys) (by_name S starts keys n)) (map name (mesh_of (parts_of S)))
      (copies-ascending index named (fields_passed S f) (order_passed S f) (copies_passed S f)) (mesh-ascends (parts_of S)) keys_to keys_from

  -- of what `entities` answers
  module _ {ord tmp ord' tmp' : List ℕ} {r : Result ℕ Repeated} (e : Entities (set_in b) starts keys ord tmp ord' tmp' n r) where
    pub entities_mesh : map (key_in keys) (take (count_of r) ord') ≡ map name (mesh_of (parts_of (set_in b)))
    entities_mesh = ap (map (key_in keys)) e.rows ∙ names_mesh

    pub entities_count : count_of r ≡ length (mesh_of (parts_of (set_in b)))
    entities_count =
        sym (length-take-le (count_of r) ord' e.within) ∙ sym (length-map (take (count_of r) ord') (key_in keys)) ∙ ap length entities_mesh
        ∙ length-map (mesh_of (parts_of (set_in b))) name

    -- an entry's name is that of the entity at its place
    same_name : (i : ℕ) → i < (count_of r) → key_in keys (get_or ord' i 0) ≡ name (get_or (mesh_of (parts_of (set_in b))) i no_ent)
    same_name i h =
        let xs = take (count_of r) ord' in
        let l : i < length xs = omega (arith, length-take-le (count_of r) ord' e.within) in
        ap (key_in keys) (sym (get_or-take (count_of r) ord' i 0 h)) ∙ sym (get_or_map (key_in keys) xs i 0 0 l) ∙ ap (λ (ks : List ℕ). get_or ks i 0) entities_mesh
        ∙ get_or_map name (mesh_of (parts_of (set_in b))) i no_ent 0 (omega (arith, entities_count))

    pub entity_at : (i : ℕ) → i < (count_of r) → EntityAt (set_in b) starts ord' i
    unfolding row_at
    entity_at i h =
        let S = set_in b in
        let w = entry_low e i h in
        record {
          part = w.part;
          slot = w.slot;
          within = omega (arith, w.within, index.count);
          there = w.there;
          low = low_lowest S w.part w.slot w.low;
          is = w.is;
          entity = mesh-one S f (ent S w.part w.slot) (get_or (mesh_of (parts_of S)) i no_ent) (in_mesh S f w.part w.slot w.there)
              (get_or_in (mesh_of (parts_of S)) i no_ent (omega (arith, entities_count))) (sym (key_name (get_or ord' i 0) w) ∙ same_name i h);
        }
