-- Where each object's row is sent: to the part of the entry that names it, or it stays. Assumes nothing.
use Prim.Native.Nat.{ℕ, ◌+◌, ◌<◌}
use native.Mathlib.Omega.{arith}
use mathlib.Core.Path.{◌≡◌, refl, sym, ap, ◌∙◌, subst}
use mathlib.Core.Bool.{Bool, not}
use mathlib.Core.List.{List, []}
use mathlib.Core.Option.{Option, none, some}
use lib.ListN.{length, get_or}
use lib.Dec.{T, eqb, ltb→lt, eqb→eq, T_not}
use Rattle.laws.specs.Lists.{up_to, first_bad}
use Rattle.laws.proofs.Tests.{eq-eqb, not_not}
use Rattle.laws.proofs.FirstBad.{none_bad, bad_lt, bad_fails}
use Rattle.paper.specs.Image.{row_at}
use Rattle.paper.specs.Mesh.{name, ent_of, parts_of, mesh_of, is_object, slot_in}
use Rattle.paper.specs.Sound.{name_of_row}
use Rattle.paper.specs.Placement.{place_in}
use Rattle.paper.specs.Move.{entry_name, entry_part, all_entries, entry_fitting}
use Rattle.index.specs.Index.{set_in, Indexed}
use Rattle.merge.specs.Runs.{key_in}
use Rattle.rows.proofs.Laws.{part_there, row_there}
use Rattle.demands.proofs.Theorems.Destinations.{moved_listed, moved_unlisted}
use Rattle.demands.proofs.Sound.Facts.{Sound}
use Rattle.demands.proofs.Sound.Rows.{ent, in_part_lem, slot_is}
use Rattle.demands.proofs.Sound.ToFit.{sound_fit}
use Rattle.demands.proofs.Fit.ToMesh.{object_found}
use Rattle.paper.specs.declared.EntryRule.TheVariants.{Whole, Destination, Known}
use Rattle.paper.specs.Move.{entry_judged}
use Rattle.moves.proofs.Judging.{passed_whole, passed_next, passed_known}
use Rattle.plan.specs.Plan.{placed, placing, Sourced, Destined}
use Rattle.places.specs.Sending.{Sendable}
use Rattle.places.specs.Sweep.{Stayed, Addressed, Sent}
use Rattle.places.proofs.ObjectRows.{open_object, open_place}

-- ---- what the second sweep asks

module _ {b l offs starts keys table ord dest : List ℕ} {n m : ℕ} (index : Indexed b offs starts n) (asked : Sendable b l starts keys table ord dest m) where
  fits : (i : ℕ) → i < all_entries l → T (entry_fitting l i)
  unfolding entry_judged
  fits = asked.passed Whole

  part_fits : (i : ℕ) → i < all_entries l → entry_part l i < length (set_in b)
  unfolding entry_judged
  part_fits i h = ltb→lt (entry_part l i) (length (set_in b)) (asked.passed Destination i h)

  pub addressed : Addressed l keys ord m
  addressed = record {
    whole = passed_whole (set_in b) l (asked.passed Whole);
    part = λ i h. omega (arith, part_fits i h, index.count, index.few);
    up = passed_next (set_in b) l (asked.passed Whole);
    there = λ i h. asked.catalog.all (entry_name l i) (passed_known (set_in b) l (asked.passed Known) i h);
  }

module _ {b l offs starts keys table ord dest : List ℕ} {n m : ℕ} (source : Sourced b offs starts ord n m) (asked : Sendable b l starts keys table ord dest m) where
  pub rows_there : (dest' : List ℕ) → length dest' ≡ length dest → (j : ℕ) → j < m → get_or ord j 0 < length dest'
  rows_there dest' same j h = let w = source.ordered.row j h in omega (arith, w.is, row_there source.indexed w.part w.slot w.there, asked.room, same)

  -- ---- what the two leave

  module _ (f : Sound (set_in b)) (p s : ℕ) (h : s < length (get_or (set_in b) p [])) (o : get_or table (get_or starts p 0 + s) 0 ≡ 0) where
    k : ℕ
    k = name_of_row (row_at (set_in b) p s)

    -- an object has one row
    one-row : (q t : ℕ) → t < length (get_or (set_in b) q []) → name_of_row (row_at (set_in b) q t) ≡ k → get_or starts q 0 + t ≡ get_or starts p 0 + s
    unfolding k row_at ent_of
    one-row q t g e =
        let S = set_in b in
        let obj : T (is_object (mesh_of (parts_of S)) (name (ent S q t))) =
        subst (λ (z : ℕ). T (is_object (mesh_of (parts_of S)) z)) (sym e) (open_object f asked.covers p s h o) in
        let part : q ≡ p = sym (object_found (parts_of S) (sound_fit S f) q (ent S q t) (in_part_lem S q t g) obj) ∙ ap (place_in (parts_of S)) e ∙ open_place f asked.covers p s h o in
        let slot : t ≡ s = sym (slot_is S f.copied q t g) ∙ ap (λ (z : ℕ). slot_in (get_or (parts_of S) z []) (name (ent S q t))) part
        ∙ ap (slot_in (get_or (parts_of S) p [])) e ∙ slot_is S f.copied p s h in
        omega (arith, slot, ap (λ (z : ℕ). get_or starts z 0) part)

    -- the place of its name is that of its row
    place_row : (j : ℕ) → j < m → key_in keys (get_or ord j 0) ≡ k → get_or ord j 0 ≡ get_or starts p 0 + s
    place_row j g e =
        let w = source.ordered.row j g in
        let named : name_of_row (row_at (set_in b) w.part w.slot) ≡ k = sym (asked.named.key w.part w.slot w.there) ∙ ap (key_in keys) (sym w.is) ∙ e in
        w.is ∙ one-row w.part w.slot w.there named

    module _ (dest₁ dest₂ : List ℕ) (stayed : Stayed starts n dest dest₁) (sent : Sent l keys ord m (all_entries l) dest₁ dest₂) where
      is-listed : (i : ℕ) → i < all_entries l → entry_name l i ≡ k → get_or dest₂ (get_or starts p 0 + s) 0 ≡ placing b l k
      is-listed i g e =
          let w = (addressed source.indexed asked).there i g in
          let at : get_or ord w.0 0 ≡ get_or starts p 0 + s = place_row w.0 w.1 (w.2 ∙ e) in
          ap (λ (z : ℕ). get_or dest₂ z 0) (sym at) ∙ sent.listed i w.0 g w.1 w.2 ∙ sym (moved_listed l (fits source.indexed asked) (placed b) k i g e)

      is-unlisted : ((i : ℕ) → i < all_entries l → entry_name l i ≡ k → ⊥) → get_or dest₂ (get_or starts p 0 + s) 0 ≡ placing b l k
      unfolding k
      is-unlisted free =
          let index = source.indexed in
          let there = part_there index p s h in
          sent.other (get_or starts p 0 + s) (λ i j g a e z. free i g (sym e ∙ ap (key_in keys) z ∙ asked.named.key p s h))
          ∙ stayed.own p (get_or starts p 0 + s) there (omega arith) (omega (arith, index.next p there))
          ∙ sym (moved_unlisted l (placed b) (name_of_row (row_at (set_in b) p s)) free ∙ open_place f asked.covers p s h o)

      object-sent : get_or dest₂ (get_or starts p 0 + s) 0 ≡ placing b l (name_of_row (row_at (set_in b) p s))
      unfolding k
      object-sent = go (first_bad other (up_to (all_entries l))) refl
        where
          other : ℕ → Bool
          other i = not (eqb (entry_name l i) k)

          go : (x : Option ℕ) → first_bad other (up_to (all_entries l)) ≡ x → get_or dest₂ (get_or starts p 0 + s) 0 ≡ placing b l k
          go none e = is-unlisted (λ i g z. T_not (eqb (entry_name l i) k) (none_bad other (all_entries l) e i g) (eq-eqb (entry_name l i) k z))
          go (some i) e = is-listed i (bad_lt other (all_entries l) i e) (eqb→eq (entry_name l i) k (not_not (eqb (entry_name l i) k) (bad_fails other (all_entries l) i e)))

  pub destined : Sound (set_in b) → (dest₁ dest₂ : List ℕ) → Stayed starts n dest dest₁ → Sent l keys ord m (all_entries l) dest₁ dest₂ → Destined b l starts table dest₂
  destined f dest₁ dest₂ stayed sent = record {
    room = omega (arith, asked.room, stayed.same, sent.same);
    entry = λ p s h o. object-sent f p s h o dest₁ dest₂ stayed sent;
  }
