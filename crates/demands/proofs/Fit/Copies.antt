-- Rule 10 of the rows that fitting parts make: the copies agree.
-- Assumes nothing.
use Prim.Native.Nat.{ℕ, ◌^◌, ◌<◌}
use native.Mathlib.Omega.{arith}
use mathlib.Core.Path.{◌≡◌, refl, sym, ap, ◌∙◌, subst, subst₂}
use mathlib.Core.Bool.{not, ◌||◌}
use mathlib.Core.Logic.{◌⊎◌, inl, inr}
use mathlib.Core.List.{List, [], map}
use lib.ListN.{length, get_or, length-map, get_or-map}
use lib.Dec.{T, eqb, ltb, lt→ltb, eqb_refl}
use Rattle.laws.specs.Lists.{In, every, same, up_to, member, index_of}
use Rattle.part_set.specs.Masks.{has, others, parts_in}
use Rattle.paper.specs.Image.{Row, row_at}
use Rattle.paper.specs.Mesh.{Entity, Parts, name, no_ent, same_ent, ent_of, holds, slot_in, owner_among}
use Rattle.paper.specs.Sound.{name_of_row, remote_slot_of, twin_agrees, copies_agree}
use Rattle.paper.specs.Placement.{residence_in, row_for, rows_for}
use Rattle.laws.proofs.Tests.{both, join4, join5, or_l, or_r, decide, eq-eqb}
use Rattle.laws.proofs.Agree.{map_of_map}
use Rattle.laws.proofs.Members.{in_every, get_or_in}
use Rattle.laws.proofs.Ranges.{up_to_in}
use Rattle.demands.proofs.Entities.Names.{in_holds}
use Rattle.laws.proofs.Places.{read_at, index_get_or}
use Rattle.part_set.proofs.MaskParts.{others_in, in_others, others-ascends}
use Rattle.laws.proofs.Same.{same_refl}
use Rattle.demands.proofs.Rows.ReadBack.{slot_lt, slot_name}
use Rattle.demands.proofs.Fit.Record.{Fit}
use Rattle.demands.proofs.Rows.Made.{rows-count, rows-part}
use Rattle.demands.proofs.Fit.Rows.{in_rows, row_at_lem, ent-back, has-residence, residence-holds, holds-residence}
use Rattle.demands.proofs.Fit.Fields.{part_small}
use Rattle.demands.proofs.Fit.Held.{in_held}
use Rattle.demands.proofs.Sound.Rows.{row}

same_self : (e : Entity) → T (same_ent e e)
unfolding same_ent
same_self e =
    join4 (eqb (name e) (name e)) (eqb e.kind e.kind) (eqb e.value e.value) (same e.shape e.shape)
    (eqb_refl (name e), eqb_refl e.kind, eqb_refl e.value, same_refl e.shape)

-- the remote slot of a row is the entity's place there
remote_is : (ps : Parts) (p q : ℕ) (e : Entity) → In q (others (residence_in ps (name e)) p) → remote_slot_of (row_for ps p e) p q ≡ slot_in (get_or ps q []) (name e)
unfolding remote_slot_of row_for
remote_is ps p q e i =
    let m = residence_in ps (name e) in
    read_at (λ q. slot_in (get_or ps q []) (name e)) (others m p) (others-ascends m p) q i

names_of : (ps : Parts) (q : ℕ) → map name_of_row (get_or (rows_for ps) q []) ≡ map name (get_or ps q [])
unfolding row_for
names_of ps q = ap (map name_of_row) (rows-part ps q) ∙ map_of_map name_of_row (row_for ps q) (get_or ps q [])

module _ (ps : Parts) (F : Fit ps) (few : (p : ℕ) → length (get_or ps p []) < 2 ^ 32) where
  -- an entity stands at its slot
  slot_ent : (q : ℕ) (e : Entity) → In e (get_or ps q []) → get_or (get_or ps q []) (slot_in (get_or ps q []) (name e)) no_ent ≡ e
  slot_ent q e i =
      let es = get_or ps q [] in
      let t = in_holds es e i in
      F.agree q q (get_or es (slot_in es (name e)) no_ent) e (get_or_in es (slot_in es (name e)) no_ent (slot_lt es (name e) t)) i (slot_name es (name e) t)

  slot_place : (p s : ℕ) → s < length (get_or ps p []) → slot_in (get_or ps p []) (name (get_or (get_or ps p []) s no_ent)) ≡ s
  unfolding slot_in
  slot_place p s h =
      let es = get_or ps p [] in
      ap (λ (k : ℕ). index_of k (map name es)) (sym (get_or-map name es s no_ent)) ∙ index_get_or (map name es) (F.ascends p) s (subst (λ (n : ℕ). s < n) (sym (length-map es name)) h)

  ent_in : (q : ℕ) (e : Entity) → In e (get_or ps q []) → ent_of (get_or (rows_for ps) q []) (row_for ps q e) ≡ e
  ent_in q e i = ap (λ (rows : List Row). ent_of rows (row_for ps q e)) (rows-part ps q) ∙ ent-back ps F few q e i

  -- the copy of e in q, as a row of the set
  copy_at : (q : ℕ) (e : Entity) → In e (get_or ps q []) → row (rows_for ps) q (slot_in (get_or ps q []) (name e)) ≡ row_for ps q e
  copy_at q e i = row_at_lem ps q (slot_in (get_or ps q []) (name e)) (slot_lt (get_or ps q []) (name e) (in_holds (get_or ps q []) e i)) ∙ ap (row_for ps q) (slot_ent q e i)

  mask_of : (p : ℕ) (e : Entity) → (row_for ps p e).mask ≡ residence_in ps (name e)
  unfolding row_for
  mask_of p e = refl

  owner_of : (p : ℕ) (e : Entity) → (row_for ps p e).owner ≡ owner_among ps (parts_in (residence_in ps (name e)))
  unfolding row_for
  owner_of p e = refl

  -- the twin of a row, for rows given by equations
  twin_at : (p s q : ℕ) (e : Entity) → row (rows_for ps) p s ≡ row_for ps p e → slot_in (get_or ps p []) (name e) ≡ s
      → In e (get_or ps p []) → In q (others (residence_in ps (name e)) p) → T (twin_agrees (rows_for ps) p s q)
  unfolding twin_agrees row_at
  twin_at p s q e er es ip iq =
      let S = rows_for ps in
      let k = name e in
      let m = residence_in ps k in
      let r = row S p s in
      let t = remote_slot_of r p q in
      let w = row S q t in
      let o = others_in m p q iq in
      let v = residence-holds ps k q o.1 in
      let jq : In e (get_or ps q []) = in_held ps F p q e ip v.1 in
      let et : t ≡ slot_in (get_or ps q []) k = ap (λ (x : Row). remote_slot_of x p q) er ∙ remote_is ps p q e iq in
      let ew : w ≡ row_for ps q e = ap (λ (i : ℕ). row S q i) et ∙ copy_at q e jq in
      let hp : In p (others m q) = in_others m q p (part_small ps F few p e ip) (holds-residence ps p e ip) (λ x. o.2 (sym x)) in
      join5 (ltb t (length (get_or S q []))) (same_ent (ent_of (get_or S p []) r) (ent_of (get_or S q []) w)) (eqb r.mask w.mask) (eqb r.owner w.owner) (eqb (remote_slot_of w q p) s) (
        lt→ltb t (length (get_or S q [])) (omega (arith, et, in_rows ps q, slot_lt (get_or ps q []) k v.1)),
        subst₂ (λ (x y : Entity). T (same_ent x y)) (sym (ap (ent_of (get_or S p [])) er ∙ ent_in p e ip)) (sym (ap (ent_of (get_or S q [])) ew ∙ ent_in q e jq)) (same_self e),
        eq-eqb r.mask w.mask (ap (λ (x : Row). x.mask) er ∙ mask_of p e ∙ sym (mask_of q e) ∙ ap (λ (x : Row). x.mask) (sym ew)),
        eq-eqb r.owner w.owner (ap (λ (x : Row). x.owner) er ∙ owner_of p e ∙ sym (owner_of q e) ∙ ap (λ (x : Row). x.owner) (sym ew)),
        eq-eqb (remote_slot_of w q p) s (ap (λ (x : Row). remote_slot_of x q p) ew ∙ remote_is ps q p e hp ∙ es),
      )

  -- no part outside the set holds the entity
  listed : (p q : ℕ) (e : Entity) → In e (get_or ps p []) → q < length ps → (r : Row) → r ≡ row_for ps p e
      → T (not (member (name_of_row r) (map name_of_row (get_or (rows_for ps) q []))) || has r.mask q)
  unfolding row_for holds
  listed p q e ip h r er = go (decide (member (name_of_row r) (map name_of_row (get_or (rows_for ps) q []))))
    where
      go : T (member (name_of_row r) (map name_of_row (get_or (rows_for ps) q []))) ⊎ T (not (member (name_of_row r) (map name_of_row (get_or (rows_for ps) q []))))
          → T (not (member (name_of_row r) (map name_of_row (get_or (rows_for ps) q []))) || has r.mask q)
      go (inr t) = or_l (not (member (name_of_row r) (map name_of_row (get_or (rows_for ps) q [])))) (has r.mask q) t
      go (inl t) =
          let held : T (holds (get_or ps q []) (name e)) = unfold holds row_for in subst₂ (λ (k : ℕ) (l : List ℕ). T (member k l)) (ap name_of_row er) (names_of ps q) t in
          or_r (not (member (name_of_row r) (map name_of_row (get_or (rows_for ps) q [])))) (has r.mask q)
          (subst (λ (m : ℕ). T (has m q)) (sym (ap (λ (x : Row). x.mask) er)) (subst T (sym (has-residence ps (name e) q h)) held))

  pub row-copies : (p s : ℕ) → s < length (get_or ps p []) → T (copies_agree (rows_for ps) p s)
  unfolding copies_agree row_at
  row-copies p s h =
      let S = rows_for ps in
      let e = get_or (get_or ps p []) s no_ent in
      let i = get_or_in (get_or ps p []) s no_ent h in
      let r = row S p s in
      let er : r ≡ row_for ps p e = row_at_lem ps p s h in
      both (every (twin_agrees S p s) (others r.mask p)) (every (λ q. not (member (name_of_row r) (map name_of_row (get_or S q []))) || has r.mask q) (up_to (length S)))
      (in_every (twin_agrees S p s) (others r.mask p) (λ q j.
      twin_at p s q e er (slot_place p s h) i (subst (λ (m : ℕ). In q (others m p)) (ap (λ (x : Row). x.mask) er ∙ mask_of p e) j)))
      (in_every (λ q. not (member (name_of_row r) (map name_of_row (get_or S q []))) || has r.mask q) (up_to (length S)) (λ q j.
      listed p q e i (subst (λ (n : ℕ). q < n) (rows-count ps) (up_to_in (length S) q j)) r er))
