-- Rules 8 and 9 of the rows that fitting parts make: the order and the boundary.
-- Assumes nothing.
use Prim.Native.Nat.{ℕ, zero, suc, ◌^◌, ◌<◌}
use native.Mathlib.Omega.{arith}
use mathlib.Core.Path.{◌≡◌, refl, sym, ap, ◌∙◌, subst, subst₂}
use mathlib.Core.Bool.{Bool, ◌&&◌}
use mathlib.Core.List.{List, [], map}
use lib.ListN
use lib.ListN.{length, get_or, length-map}
use lib.Dec.{T, eqb, ltb, lt→ltb}
use Rattle.laws.specs.Lists.{In, every, pairwise, ascending}
use Rattle.paper.specs.Image.{Row, no_row}
use Rattle.paper.specs.Mesh.{Entity, Parts, name_of, name, no_ent, slots_of, shape_of, ent_of, holds, slot_in, simplex}
use Rattle.paper.specs.Sound.{name_of_row, ordered, slots_stand, boundary_stands}
use Rattle.paper.specs.Placement.{body_in, row_for}
use Rattle.laws.proofs.Tests.{both, eq-eqb}
use Rattle.laws.proofs.Members.{in_every, map_in}
use Rattle.laws.proofs.Agree.{get_or_map}
use Rattle.demands.proofs.Entities.Names.{name_dim}
use Rattle.laws.proofs.Ascending.{asc_get_or, asc_places, asc_map}
use Rattle.demands.proofs.Rows.ReadBack.{slot_lt, slot_name, slots-written}
use Rattle.demands.proofs.Fit.Record.{Fit}
use Rattle.demands.proofs.Fit.Rows.{rows_in, numbers, faces_at_lem, all_standing, ent-back, part-back}

module _ (ps : Parts) (F : Fit ps) (few : (p : ℕ) → length (get_or ps p []) < 2 ^ 32) where
  row-name : (p s : ℕ) → s < length (get_or ps p []) → name_of_row (get_or (rows_in ps p) s no_row) ≡ get_or (map name (get_or ps p [])) s 0
  unfolding row_for
  row-name p s h = ap name_of_row (get_or_map (row_for ps p) (get_or ps p []) s no_ent no_row h) ∙ sym (ListN.get_or-map name (get_or ps p []) s no_ent)

  pub row-ordered : (p s : ℕ) → s < length (get_or ps p []) → T (ordered (rows_in ps p) s)
  unfolding ordered
  row-ordered p zero h = tt
  row-ordered p (suc s) h =
      let a = name_of_row (get_or (rows_in ps p) s no_row) in
      let b = name_of_row (get_or (rows_in ps p) (suc s) no_row) in
      lt→ltb a b (lt_by p s h)
    where
      lt_by : (p s : ℕ) → suc s < length (get_or ps p []) → name_of_row (get_or (rows_in ps p) s no_row) < name_of_row (get_or (rows_in ps p) (suc s) no_row)
      lt_by p s h =
          let l = length-map (get_or ps p []) name in
          let up = asc_get_or (map name (get_or ps p [])) (F.ascends p) s (suc s) (omega arith) (omega (arith, l)) in
          subst₂ (λ (x y : ℕ). x < y) (sym (row-name p s (omega arith))) (sym (row-name p (suc s) h)) up

  -- ---- the boundary

  -- what stands at the slot of a face has the face's dimension
  slot_dim : (p d k : ℕ) → k < 2 ^ 32 → T (holds (get_or ps p []) (name_of d k)) → (get_or (rows_in ps p) (slot_in (get_or ps p []) (name_of d k)) no_row).dim ≡ d
  unfolding row_for
  slot_dim p d k h t =
      let es = get_or ps p [] in
      let s = slot_in es (name_of d k) in
      let e = get_or es s no_ent in
      ap (λ (r : Row). r.dim) (get_or_map (row_for ps p) es s no_ent no_row (slot_lt es (name_of d k) t))
      ∙ name_dim e.dim e.number d k (numbers ps F few p s) h (slot_name es (name_of d k) t)

  slots_up : (p d a b : ℕ) → T (holds (get_or ps p []) (name_of d a)) → T (holds (get_or ps p []) (name_of d b)) → a < b
      → slot_in (get_or ps p []) (name_of d a) < slot_in (get_or ps p []) (name_of d b)
  slots_up p d a b s t l =
      let es = get_or ps p [] in
      let i = slot_in es (name_of d a) in
      let j = slot_in es (name_of d b) in
      let n = length-map es name in
      let hi = slot_lt es (name_of d a) s in
      let hj = slot_lt es (name_of d b) t in
      asc_places (map name es) (F.ascends p) i j (omega (arith, n)) (omega (arith, n))
      (subst₂ (λ (x y : ℕ). x < y) (sym (ListN.get_or-map name es i no_ent ∙ slot_name es (name_of d a) s)) (sym (ListN.get_or-map name es j no_ent ∙ slot_name es (name_of d b) t)) (omega arith))

  stand_at : (p : ℕ) (e : Entity) → In e (get_or ps p []) → (d : ℕ) → e.dim ≡ d → let fs = slots_of d (body_in (get_or ps p []) d e.shape) in
      T (every (λ f. ltb f (length (rows_in ps p)) && eqb (suc (get_or (rows_in ps p) f no_row).dim) d) fs && pairwise ltb fs)
  unfolding slots_of every pairwise ascending
  stand_at p e i zero q = tt
  stand_at p e i (suc d) q =
      let es = get_or ps p [] in
      let f = faces_at_lem ps F few p d e i q in
      let g : ℕ → ℕ = λ k. slot_in es (name_of d k) in
      let rows = rows_in ps p in
      let ok : ℕ → Bool = λ t. ltb t (length rows) && eqb (suc (get_or rows t no_row).dim) (suc d) in
      let n = length-map es (row_for ps p) in
      subst (λ (fs : List ℕ). T (every ok fs && pairwise ltb fs)) (sym (slots-written es (numbers ps F few p) (few p) d e.shape f.count (all_standing es d e.shape f)))
      (both (every ok (map g e.shape)) (pairwise ltb (map g e.shape))
      (in_every ok (map g e.shape) (λ t j.
      let w = map_in g e.shape t j in
      let h = f.held w.0 w.1 in
      subst (λ (z : ℕ). T (ok z)) (sym w.2) (both (ltb (g w.0) (length rows)) (eqb (suc (get_or rows (g w.0) no_row).dim) (suc d))
      (lt→ltb (g w.0) (length rows) (omega (arith, n, slot_lt es (name_of d w.0) h.1)))
      (eq-eqb (suc (get_or rows (g w.0) no_row).dim) (suc d) (ap suc (slot_dim p d w.0 h.0 h.1))))))
      (asc_map g e.shape (λ a b x y l. slots_up p d a b (f.held a x).1 (f.held b y).1 l) f.ascends))

  row_stands : (p : ℕ) (e : Entity) → In e (get_or ps p []) → T (slots_stand (rows_in ps p) (row_for ps p e))
  unfolding slots_stand row_for
  row_stands p e i = stand_at p e i e.dim refl

  row-simplex : (p : ℕ) (e : Entity) → In e (get_or ps p [])
      → T (simplex (map (ent_of (rows_in ps p)) (rows_in ps p)) (row_for ps p e).dim (row_for ps p e).number (shape_of (rows_in ps p) (row_for ps p e).dim (row_for ps p e).body))
  unfolding row_for ent_of
  row-simplex p e i =
      subst₂ (λ (es : List Entity) (x : Entity). T (simplex es x.dim x.number x.shape)) (sym (part-back ps F few p)) (sym (ent-back ps F few p e i)) (F.fits p e i).simple

  pub row_boundary : (p : ℕ) (e : Entity) → In e (get_or ps p []) → T (boundary_stands (rows_in ps p) (row_for ps p e))
  unfolding boundary_stands
  row_boundary p e i =
      let rows = rows_in ps p in
      let r = row_for ps p e in
      both (slots_stand rows r) (simplex (map (ent_of rows) rows) r.dim r.number (shape_of rows r.dim r.body)) (row_stands p e i) (row-simplex p e i)
