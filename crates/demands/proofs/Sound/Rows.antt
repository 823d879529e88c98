-- The rows of a set that passes rules 7 to 10, as entities: names, copies, residence sets.
-- Assumes nothing.
use Prim.Native.Nat.{ℕ, suc, ◌^◌, ◌<◌, ◌≤◌}
use native.Mathlib.Omega.{arith}
use mathlib.Core.Path.{◌≡◌, sym, ap, ◌∙◌, subst}
use mathlib.Core.Bool.{not, ◌||◌}
use mathlib.Core.Logic.{◌⊎◌, inl, inr}
use mathlib.Core.List.{List, [], map}
use lib.ListN
use lib.ListN.{length, get_or, length-map}
use lib.Dec.{T, eqb, ltb, leb, ltb→lt, leb→le, eqb→eq, T_not}
use Rattle.laws.specs.Lists.{In, every, same, ascending, up_to, member, index_of}
use Rattle.part_set.specs.Masks.{has, others}
use Rattle.paper.specs.Image.{Row, Set, no_row, row_at}
use Rattle.paper.specs.Mesh.{Entity, name, same_ent, ent_of, parts_of, holds, slot_in}
use Rattle.paper.specs.Sound.{value_fitting, body_fitting, fields_fit, name_of_row, ordered, remote_slot_of, twin_agrees, copies_agree}
use Rattle.laws.proofs.Tests.{split2, split4, split5, split8, or_either, decide, eq-eqb}
use Rattle.laws.proofs.Agree.{map_of_map, get_or_map}
use Rattle.laws.proofs.Members.{get_or_in, in_get_or, in_map, map_in, every_in, part_lt}
use Rattle.laws.proofs.Ranges.{in_up_to}
use Rattle.demands.proofs.Entities.Names.{in_holds, holds_in, name_dim, name-number}
use Rattle.laws.proofs.Keyed.{ascends_uniq}
use Rattle.paper.proofs.Codec.{Wide}
use Rattle.laws.proofs.Same.{same_eq}
use Rattle.laws.proofs.Ascending.{asc_adjacent}
use Rattle.laws.proofs.Places.{index_get_or}
use Rattle.part_set.proofs.MaskParts.{has_lt, in_others}
use Rattle.demands.proofs.Sound.Facts.{Copied}

-- the row at slot s of part p, as `row_at`, but always open
abbrev pub row : Set → ℕ → ℕ → Row
row S p s = get_or (get_or S p []) s no_row

-- the entity of a row
abbrev pub ent : Set → ℕ → ℕ → Entity
ent S p s = ent_of (get_or S p []) (row S p s)

pub parts_at : (S : Set) (p : ℕ) → get_or (parts_of S) p [] ≡ map (ent_of (get_or S p [])) (get_or S p [])
unfolding parts_of
parts_at S p = ListN.get_or-map (λ rows. map (ent_of rows) rows) S p []

pub parts_count : (S : Set) → length (parts_of S) ≡ length S
unfolding parts_of
parts_count S = length-map S (λ rows. map (ent_of rows) rows)

pub part_in : (S : Set) (p : ℕ) (e : Entity) → In e (get_or (parts_of S) p []) → (s : ℕ) × (s < length (get_or S p [])) × (e ≡ ent S p s)
part_in S p e i =
    let w = map_in (ent_of (get_or S p [])) (get_or S p []) e (subst (λ (l : List Entity). In e l) (parts_at S p) i) in
    let v = in_get_or (get_or S p []) w.0 no_row w.1 in
    (v.0, v.1, w.2 ∙ ap (ent_of (get_or S p [])) v.2)

pub in_part_lem : (S : Set) (p s : ℕ) → s < length (get_or S p []) → In (ent S p s) (get_or (parts_of S) p [])
in_part_lem S p s h =
    subst (λ (l : List Entity). In (ent S p s) l) (sym (parts_at S p)) (in_map (ent_of (get_or S p [])) (get_or S p []) (row S p s) (get_or_in (get_or S p []) s no_row h))

-- the names of a part are those of its rows
part_names : (S : Set) (p : ℕ) → map name (get_or (parts_of S) p []) ≡ map name_of_row (get_or S p [])
unfolding ent_of
part_names S p = ap (map name) (parts_at S p) ∙ map_of_map name (ent_of (get_or S p [])) (get_or S p [])

pub name_at : (S : Set) (p s : ℕ) → s < length (get_or S p []) → get_or (map name (get_or (parts_of S) p [])) s 0 ≡ name (ent S p s)
unfolding ent_of
name_at S p s h = ap (λ (l : List ℕ). get_or l s 0) (part_names S p) ∙ get_or_map name_of_row (get_or S p []) s no_row 0 h

pub names_count : (S : Set) (p : ℕ) → length (map name (get_or (parts_of S) p [])) ≡ length (get_or S p [])
names_count S p = ap length (part_names S p) ∙ length-map (get_or S p []) name_of_row

-- ---- rule 7, in plain propositions

pub record FieldsOk (n p : ℕ) (r : Row) : Type 0 where
  pub dim : r.dim ≤ 3
  pub owner : r.owner < n
  pub kind : r.kind ≤ 2
  pub pad : r.pad ≡ 0
  pub mask : r.mask < 2 ^ n
  pub own : T (has r.mask p)
  pub value : T (value_fitting r.kind r.value)
  pub body : T (body_fitting r.dim r.body)

pub fields_of : (n p : ℕ) (r : Row) → T (fields_fit n p r) → FieldsOk n p r
unfolding fields_fit
fields_of n p r t =
    let s = split8 (leb r.dim 3) (ltb r.owner n) (leb r.kind 2) (eqb r.pad 0) (ltb r.mask (2 ^ n)) (has r.mask p) (value_fitting r.kind r.value) (body_fitting r.dim r.body) t in
    record {
      dim = leb→le r.dim 3 s.0;
      owner = ltb→lt r.owner n s.1;
      kind = leb→le r.kind 2 s.2;
      pad = eqb→eq r.pad 0 s.3;
      mask = ltb→lt r.mask (2 ^ n) s.4;
      own = s.5;
      value = s.6;
      body = s.7;
    }

-- entities that are the same by the test are equal, where their numbers have 32 bits
same-ent : (e f : Entity) → e.number < 2 ^ 32 → f.number < 2 ^ 32 → T (same_ent e f) → e ≡ f
unfolding same_ent
same-ent e f he hf t =
    let s = split4 (eqb (name e) (name f)) (eqb e.kind f.kind) (eqb e.value f.value) (same e.shape f.shape) t in
    let n = eqb→eq (name e) (name f) s.0 in
    let d = name_dim e.dim e.number f.dim f.number he hf n in
    let k = name-number e.dim e.number f.dim f.number he hf n in
    let kd = eqb→eq e.kind f.kind s.1 in
    let v = eqb→eq e.value f.value s.2 in
    let sh = same_eq e.shape f.shape s.3 in
    λ i. record { dim = d i; number = k i; kind = kd i; value = v i; shape = sh i }

-- ---- rule 8: the names of a part's rows ascend

step_up : (rows : List Row) → ((s : ℕ) → s < length rows → T (ordered rows s)) → (s : ℕ) → suc s < length (map name_of_row rows)
    → get_or (map name_of_row rows) s 0 < get_or (map name_of_row rows) (suc s) 0
unfolding ordered
step_up rows o s h =
    let n = length-map rows name_of_row in
    omega (
      arith,
      get_or_map name_of_row rows s no_row 0 (omega (arith, n)),
      get_or_map name_of_row rows (suc s) no_row 0 (omega (arith, n)),
      ltb→lt (name_of_row (get_or rows s no_row)) (name_of_row (get_or rows (suc s) no_row)) (o (suc s) (omega (arith, n))),
    )

pub rows_ascend : (rows : List Row) → ((s : ℕ) → s < length rows → T (ordered rows s)) → T (ascending (map name_of_row rows))
rows_ascend rows o = asc_adjacent (map name_of_row rows) (step_up rows o)

-- ---- rule 10, in plain propositions

-- the copy of row s of part p in part q: the same entity with the same residence set and owner, and it names this row's slot back
pub record Twin (S : Set) (p s q : ℕ) : Type 0 where
  pub slot : remote_slot_of (row S p s) p q < length (get_or S q [])
  pub ent-same : ent S p s ≡ ent S q (remote_slot_of (row S p s) p q)
  pub mask_same : (row S p s).mask ≡ (row S q (remote_slot_of (row S p s) p q)).mask
  pub owner_same : (row S p s).owner ≡ (row S q (remote_slot_of (row S p s) p q)).owner
  pub back : remote_slot_of (row S q (remote_slot_of (row S p s) p q)) q p ≡ s

-- ---- a set that passes rules 7 to 10

module _ (S : Set) (f : Copied S) where
  pub row-fields : (p s : ℕ) → s < length (get_or S p []) → FieldsOk (length S) p (row S p s)
  unfolding row_at
  row-fields p s h = fields_of (length S) p (row S p s) (f.fields p s h)

  pub row_wide : (p s : ℕ) → s < length (get_or S p []) → Wide (row S p s)
  unfolding row_at
  row_wide p s h = f.wide p s h

  pub number_lt : (p s : ℕ) → s < length (get_or S p []) → (ent S p s).number < 2 ^ 32
  unfolding ent_of
  number_lt p s h = (row_wide p s h).row.number

  pub names_ascend : (p : ℕ) → T (ascending (map name (get_or (parts_of S) p [])))
  names_ascend p =
      subst (λ (l : List ℕ). T (ascending l)) (sym (part_names S p)) (rows_ascend (get_or S p []) (f.order p))

  -- the slot of a row is its name's place
  pub slot_is : (p s : ℕ) → s < length (get_or S p []) → slot_in (get_or (parts_of S) p []) (name (ent S p s)) ≡ s
  unfolding slot_in
  slot_is p s h =
      ap (λ (k : ℕ). index_of k (map name (get_or (parts_of S) p []))) (sym (name_at S p s h))
      ∙ index_get_or (map name (get_or (parts_of S) p [])) (names_ascend p) s (subst (λ (n : ℕ). s < n) (sym (names_count S p)) h)

  -- rule 10
  pub twin : (p s q : ℕ) → s < length (get_or S p []) → In q (others (row S p s).mask p) → Twin S p s q
  unfolding copies_agree twin_agrees row_at
  twin p s q h i =
      let r = row S p s in
      let c = split2 (every (twin_agrees S p s) (others r.mask p))
      (every (λ q. not (member (name_of_row r) (map name_of_row (get_or S q []))) || has r.mask q) (up_to (length S))) (f.copies p s h) in
      let t = remote_slot_of r p q in
      let w = row S q t in
      let a = split5 (ltb t (length (get_or S q []))) (same_ent (ent_of (get_or S p []) r) (ent_of (get_or S q []) w))
      (eqb r.mask w.mask) (eqb r.owner w.owner) (eqb (remote_slot_of w q p) s) (every_in (twin_agrees S p s) (others r.mask p) c.0 q i) in
      let l = ltb→lt t (length (get_or S q [])) a.0 in
      record {
        slot = l;
        ent-same = same-ent (ent S p s) (ent S q t) (number_lt p s h) (number_lt q t l) a.1;
        mask_same = eqb→eq r.mask w.mask a.2;
        owner_same = eqb→eq r.owner w.owner a.3;
        back = eqb→eq (remote_slot_of w q p) s a.4;
      }

  -- every part that holds the entity is in the set
  pub held-has : (p s q : ℕ) → s < length (get_or S p []) → T (holds (get_or (parts_of S) q []) (name (ent S p s))) → T (has (row S p s).mask q)
  unfolding copies_agree row_at holds ent_of
  held-has p s q h t =
      let r = row S p s in
      let c = split2 (every (twin_agrees S p s) (others r.mask p))
      (every (λ q. not (member (name_of_row r) (map name_of_row (get_or S q []))) || has r.mask q) (up_to (length S))) (f.copies p s h) in
      let m : T (member (name_of_row r) (map name_of_row (get_or S q []))) = subst (λ (l : List ℕ). T (member (name_of_row r) l)) (part_names S q) t in
      let w = holds_in (get_or (parts_of S) q []) (name (ent S p s)) (unfold holds in t) in
      let l = part_lt (parts_of S) q w.0 w.1 in
      go (or_either (not (member (name_of_row r) (map name_of_row (get_or S q [])))) (has r.mask q)
      (every_in (λ q. not (member (name_of_row r) (map name_of_row (get_or S q []))) || has r.mask q) (up_to (length S)) c.1 q
      (in_up_to (length S) q (subst (λ (n : ℕ). q < n) (parts_count S) l)))) m
    where
      go : T (not (member (name_of_row (row S p s)) (map name_of_row (get_or S q [])))) ⊎ T (has (row S p s).mask q)
          → T (member (name_of_row (row S p s)) (map name_of_row (get_or S q []))) → T (has (row S p s).mask q)
      go (inl x) y = absurd (T_not (member (name_of_row (row S p s)) (map name_of_row (get_or S q []))) x y)
      go (inr x) y = x

  -- and every part of the set holds the entity
  pub has_in : (p s q : ℕ) → s < length (get_or S p []) → T (has (row S p s).mask q) → In (ent S p s) (get_or (parts_of S) q [])
  has_in p s q h t = go (decide (eqb q p))
    where
      go : T (eqb q p) ⊎ T (not (eqb q p)) → In (ent S p s) (get_or (parts_of S) q [])
      go (inl e) = subst (λ (z : ℕ). In (ent S p s) (get_or (parts_of S) z [])) (sym (eqb→eq q p e)) (in_part_lem S p s h)
      go (inr ne) =
          let m = (row S p s).mask in
          let l : q < length S = has_lt (length S) m q (row-fields p s h).mask t in
          let i = in_others m p q (omega (arith, f.few_parts)) t (λ e. T_not (eqb q p) ne (eq-eqb q p e)) in
          let w = twin p s q h i in
          subst (λ (x : Entity). In x (get_or (parts_of S) q [])) (sym w.ent-same) (in_part_lem S q (remote_slot_of (row S p s) p q) w.slot)

  pub agree : (p q : ℕ) (e g : Entity) → In e (get_or (parts_of S) p []) → In g (get_or (parts_of S) q []) → name e ≡ name g → e ≡ g
  agree p q e g i j n =
      let w = part_in S p e i in
      let s = w.0 in
      let held : T (holds (get_or (parts_of S) q []) (name (ent S p s))) =
      subst (λ (k : ℕ). T (holds (get_or (parts_of S) q []) k)) (sym n ∙ ap name w.2) (in_holds (get_or (parts_of S) q []) g j) in
      let k : In e (get_or (parts_of S) q []) = subst (λ (x : Entity). In x (get_or (parts_of S) q [])) (sym w.2) (has_in p s q w.1 (held-has p s q w.1 held)) in
      ascends_uniq name (get_or (parts_of S) q []) (names_ascend q) e g k j n
