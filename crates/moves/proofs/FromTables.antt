-- The tables of a sound image make the catalog: the lowest copies in order are the entities, and a row that is not covered is an object.
-- Assumes nothing.
use Prim.Native.Nat.{ℕ, ◌+◌, ◌<◌}
use native.Mathlib.Omega.{arith}
use mathlib.Core.Path.{◌≡◌, sym, ap, ◌∙◌, subst}
use mathlib.Core.List.{List, [], map}
use lib.ListN.{length, get_or, take, length-map}
use lib.Seq.{get_or-take, length-take-le}
use lib.Dec.{T, eqb}
use Rattle.laws.specs.Lists.{In, flat, ascending}
use Rattle.laws.proofs.Members.{in_map, in_flat, flat_in, in_get_or}
use Rattle.laws.proofs.Agree.{get_or_map}
use Rattle.laws.proofs.Ascending.{asc_get_or}
use Rattle.merge.specs.Runs.{key_in}
use Rattle.paper.specs.Image.{row_at}
use Rattle.paper.specs.Mesh.{name, ent_of, parts_of, mesh_of, is_object, holds}
use Rattle.paper.specs.Sound.{name_of_row, resides_well}
use Rattle.demands.proofs.Entities.Names.{Uniq, holds_in, in_holds}
use Rattle.demands.proofs.Entities.Sorted.{in_sort, sort_ascends}
use Rattle.demands.proofs.Sound.Facts.{Copied, Each}
use Rattle.demands.proofs.Sound.Rows.{ent, in_part_lem, agree}
use Rattle.demands.proofs.ForCode.Covered.{row_object}
use Rattle.index.specs.Index.{set_in, Indexed, Named}
use Rattle.residence.specs.Tables.{Covers}
use Rattle.rows.proofs.Laws.{row_there}
use Rattle.std.proofs.Common.{Result}
use Rattle.entities.specs.declared.Repeated.{Repeated}
use Rattle.entities.specs.LowestCopies.{count_of, Entities}
use Rattle.entities.proofs.MeshOrder.{EntityAt, entities_mesh, entity_at}
use Rattle.moves.specs.Catalog.{Listing, Present, Catalog}
use Rattle.moves.proofs.OpenRows.{row_open}

module _ {b offs starts keys covered : List ℕ} {n : ℕ} (index : Indexed b offs starts n) (named : Named b starts keys) (f : Copied (set_in b))
    (resides : Each (set_in b) (λ p s. T (resides_well (set_in b) p s))) (covers : Covers b starts covered) {ord tmp ord' tmp' : List ℕ} {r : Result ℕ Repeated}
    (e : Entities (set_in b) starts keys ord tmp ord' tmp' n r) where
  one-entity : Uniq (flat (parts_of (set_in b)))
  one-entity g h i j m =
      let S = set_in b in
      let v = flat_in (parts_of S) g i in
      let w = flat_in (parts_of S) h j in
      agree S f v.0 w.0 g h v.2 w.2 m

  names : List ℕ
  names = map (key_in keys) (take (count_of r) ord')

  names_count : length names ≡ count_of r
  unfolding names
  names_count = length-map (take (count_of r) ord') (key_in keys) ∙ length-take-le (count_of r) ord' e.within

  name_is : (i : ℕ) → i < count_of r → get_or names i 0 ≡ key_in keys (get_or ord' i 0)
  unfolding names
  name_is i h =
      let xs = take (count_of r) ord' in
      let l : i < length xs = omega (arith, length-take-le (count_of r) ord' e.within) in
      get_or_map (key_in keys) xs i 0 0 l ∙ ap (key_in keys) (get_or-take (count_of r) ord' i 0 h)

  ascends : T (ascending names)
  unfolding names mesh_of
  ascends = subst (λ (ks : List ℕ). T (ascending ks)) (sym (entities_mesh index named f e)) (sort_ascends (flat (parts_of (set_in b))))

  at : (j : ℕ) → j < count_of r → EntityAt (set_in b) starts ord' j
  at = entity_at index named f e

  -- the key of a place is the name of its row
  key_is : (j : ℕ) (h : j < count_of r) → key_in keys (get_or ord' j 0) ≡ name_of_row (row_at (set_in b) (at j h).part (at j h).slot)
  key_is j h = let w = at j h in ap (key_in keys) w.is ∙ named.key w.part w.slot w.there

  listing : Listing keys ord' (count_of r)
  listing = record {
    within = e.within;
    row = λ j h. let w = at j h in omega (arith, w.is, row_there index w.part w.slot w.there, named.room);
    up = λ i j g h. omega (arith, asc_get_or names ascends i j g (omega (arith, names_count)), name_is i (omega arith), name_is j h);
  }

  is_held : (p s : ℕ) → s < length (get_or (set_in b) p []) → T (holds (flat (parts_of (set_in b))) (name_of_row (row_at (set_in b) p s)))
  unfolding ent_of row_at
  is_held p s h = let S = set_in b in in_holds (flat (parts_of S)) (ent S p s) (in_flat (parts_of S) p (ent S p s) (in_part_lem S p s h))

  held : (j : ℕ) → j < count_of r → T (holds (flat (parts_of (set_in b))) (key_in keys (get_or ord' j 0)))
  held j h = let w = at j h in subst (λ (k : ℕ). T (holds (flat (parts_of (set_in b))) k)) (sym (key_is j h)) (is_held w.part w.slot w.there)

  named_in : (k : ℕ) → T (holds (flat (parts_of (set_in b))) k) → In k names
  unfolding names mesh_of
  named_in k t =
      let es = flat (parts_of (set_in b)) in
      let w = holds_in es k t in
      subst (λ (ks : List ℕ). In k ks) (sym (entities_mesh index named f e))
      (subst (λ (z : ℕ). In z (map name (mesh_of (parts_of (set_in b))))) (sym w.2) (in_map name (mesh_of (parts_of (set_in b))) w.0 (in_sort es one-entity w.0 w.1)))

  all : (k : ℕ) → T (holds (flat (parts_of (set_in b))) k) → Present keys ord' (count_of r) k
  all k t =
      let w = in_get_or names k 0 (named_in k t) in
      let h : w.0 < count_of r = omega (arith, w.1, names_count) in
      (w.0, h, sym (name_is w.0 h) ∙ sym w.2)

  is_object_lem : (p s : ℕ) → s < length (get_or (set_in b) p []) → eqb (get_or covered (get_or starts p 0 + s) 0) 0 ≡ is_object (flat (parts_of (set_in b))) (name_of_row (row_at (set_in b) p s))
  unfolding row_at
  is_object_lem p s h = row_open f covers p s h ∙ sym (row_object (set_in b) f resides p s h)

  pub catalog : Catalog (set_in b) keys ord' covered (count_of r)
  catalog = record {
    listing = listing;
    row = λ j h. let w = at j h in omega (arith, w.is, row_there index w.part w.slot w.there, covers.room);
    held = held;
    all = all;
    object = λ j h.
        let w = at j h in
        ap (λ (g : ℕ). eqb (get_or covered g 0) 0) w.is ∙ is_object_lem w.part w.slot w.there ∙ ap (is_object (flat (parts_of (set_in b)))) (sym (key_is j h));
  }
