-- What `lookup` answers after any run of calls: an object is found in the one part where the last call that moved it sent it, any entity in
-- exactly the parts that hold it, and what the first mesh does not have is refused under 21. So a caller sees each destination through the public
-- call. b is a list of bytes for which `check` answers Sound, cs any calls that kept their promises, r any answer that keeps the promise of
-- `lookup` on `held_after b cs`, the image that the caller then holds. Assumes nothing.
use Prim.Native.Nat.{ℕ, ◌+◌, ◌*◌, ◌^◌, ◌<◌}
use native.Mathlib.Omega.{arith}
use mathlib.Core.Path.{◌≡◌, refl, sym, ap, ◌∙◌, subst}
use mathlib.Core.Bool.{Bool, true, false}
use mathlib.Core.List.{List, [], ◌∷◌, ◌++◌}
use lib.ListN.{length, get_or}
use lib.Dec.{T, eqb, eqb→eq}
use lib.Pow.{are_bytes}
use Rattle.laws.specs.Lists.{In, flat, first_or, some?}
use Rattle.field.specs.Bytes.{u8_at, u32_at}
use Rattle.part_set.specs.Masks.{has, parts_in}
use Rattle.paper.specs.Outcome.{Outcome, refused, accepted, nowhere, must, ◌>>=◌, ◌>>◌}
use Rattle.paper.specs.Image.{Row, Set, no_row, row_at, row_total}
use Rattle.paper.specs.Mesh.{Entity, Parts, name_of, name, is_object, holds, owner_among, ent_of, parts_of}
use Rattle.paper.specs.Sound.{sound_of, name_of_row}
use Rattle.paper.specs.Placement.{residence_in}
use Rattle.paper.specs.Move.{entry_part, all_entries}
use Rattle.paper.specs.Lookup.{Found, is_named, home_of, lookup_of}
use Rattle.paper.specs.Promises.{Checks, LooksUp}
use Rattle.laws.proofs.Tests.{eq-eqb}
use Rattle.laws.proofs.Members.{some_in, in_some, in_flat, flat_in, in_get_or, get_or_in, first_or_in, part_lt}
use Rattle.part_set.proofs.MaskBits.{mask_of_is}
use Rattle.part_set.proofs.MaskParts.{parts_in_in, in_parts_in, parts_in_ascends}
use Rattle.part_set.proofs.OnePart.{has_single, pow_le}
use Rattle.paper.proofs.Injective.{lookup-one}
use Rattle.demands.proofs.Entities.Names.{in_holds, name_dim, name-number}
use Rattle.demands.proofs.Entities.Owners.{Poorest, owner_in, owner_poorest}
use Rattle.demands.proofs.Fit.Record.{Fit}
use Rattle.demands.proofs.Fit.Held.{in_held}
use Rattle.demands.proofs.Fit.Rows.{has-residence, residence_lt, holds-residence}
use Rattle.demands.proofs.Fit.ToMesh.{in_mesh, mesh_in}
use Rattle.paper.proofs.Outcomes.{must_ok, then_ok, bind_ok}
use Rattle.demands.proofs.Sound.Facts.{Sound, sound_inv}
use Rattle.demands.proofs.Sound.Rows.{ent, row, parts_count, part_in, in_part_lem, number_lt}
use Rattle.demands.proofs.Theorems.Statements.{Accepts, mesh, OnlyIn}
use Rattle.demands.proofs.Theorems.Sentences.{is_fit, residence-holds, owner_rule}
use Rattle.calls.specs.Calls.{Call, Run, held_after, places_after, set_held, parts_held, mesh_held, places_held}
use Rattle.calls.proofs.Answered.{SoundSet, sound_answer}
use Rattle.calls.proofs.Runs.{run_then}
use Rattle.calls.proofs.Demand2.{entry_lands}
use Rattle.calls.proofs.Demand3.{run_accepted, run_bytes, mesh_unchanged, object_in_one_part, last_destination}
use Rattle.std.specs.Prelude.{Err}
use Rattle.paper.specs.Given.{LookupAnswer, sound_answer_of, moved_answer_of, found_answer_of}

-- the residence set and the owner that the parts give to a name
abbrev home_in : Parts → ℕ → Found
home_in ps k = record { residence = residence_in ps k; owner = owner_among ps (parts_in (residence_in ps k)) }

-- ---- parts that fit: the home of what is in one part only

module _ (ps : Parts) (F : Fit ps) (p : ℕ) (e : Entity) (only : OnlyIn ps p e) where
  one-residence : residence_in ps (name e) ≡ 2 ^ p
  unfolding residence_in
  one-residence =
      let below = pow_le (residence_in ps (name e)) p (holds-residence ps p e only.0) in
      mask_of_is (length ps) (2 ^ p) (λ q. holds (get_or ps q []) (name e)) (omega (arith, below, residence_lt ps (name e)))
      (λ q t. subst T (sym (has_single p q)) (eq-eqb q p (only.1 q (in_held ps F p q e only.0 t))))
      (λ q t. subst (λ (z : ℕ). T (holds (get_or ps z []) (name e))) (sym (eqb→eq q p (subst T (has_single p q) t))) (in_holds (get_or ps p []) e only.0))

  one_owner : p < 64 → owner_among ps (parts_in (2 ^ p)) ≡ p
  one_owner small =
      let o = owner_among ps (parts_in (2 ^ p)) in
      let i = owner_in ps (parts_in (2 ^ p)) p (in_parts_in (2 ^ p) p small (subst T (sym (has_single p p)) (eq-eqb p p refl))) in
      eqb→eq o p (subst T (has_single p o) (parts_in_in (2 ^ p) o i).1)

-- ---- any image

-- a lookup is by name
by_name : (b : List ℕ) (d k d' k' : ℕ) → name_of d k ≡ name_of d' k' → lookup_of b d k ≡ lookup_of b d' k'
unfolding lookup_of is_named
by_name b d k d' k' e =
    ap (λ (x : ℕ). sound_of b >>= λ S. must 21 (some? (λ r. eqb x (name_of_row r)) (flat S)) >> accepted (home_of (first_or no_row (λ r. eqb x (name_of_row r)) (flat S)))) e

-- ---- an accepted image

-- a test that fails refuses
must_not : {A : Type 0} (n : ℕ) (t : Bool) (o : Outcome A) → (T t → ⊥) → (must n t >> o) ≡ refused n nowhere
unfolding must ◌>>◌
must_not n true o fails = absurd (fails tt)
must_not n false o fails = refl

module _ (b : List ℕ) (S : Set) (y : T (are_bytes b)) (a : Accepts b S) where
  is_sound : Sound S
  is_sound = (sound_inv b S y a).0

  lookup-rows : (d k : ℕ) → lookup_of b d k ≡ (must 21 (some? (is_named d k) (flat S)) >> accepted (home_of (first_or no_row (is_named d k) (flat S))))
  unfolding lookup_of
  lookup-rows d k = bind_ok (sound_of b) _ S a

  -- a row of the set by its part and its slot
  row_in : (r : Row) → In r (flat S) → (q : ℕ) × (t : ℕ) × (t < length (get_or S q [])) × (r ≡ row S q t)
  row_in r i =
      let w = flat_in S r i in
      let v = in_get_or (get_or S w.0 []) r no_row w.2 in
      (w.0, v.0, v.1, v.2)

  -- every row says what the parts give to its name
  row_home : (r : Row) → In r (flat S) → home_of r ≡ home_in (parts_of S) (name_of_row r)
  unfolding home_of row_at
  row_home r i =
      let w = row_in r i in
      let q = w.0 in
      let t = w.1 in
      let mask = residence-holds b S y a q t w.2 in
      let owner = owner_rule b S y a q t w.2 in
      let at : home_of (row S q t) ≡ home_in (parts_of S) (name_of_row (row S q t)) =
      λ j. record { residence = mask j; owner = (owner ∙ ap (λ (m : ℕ). owner_among (parts_of S) (parts_in m)) mask) j } in
      subst (λ (x : Row). home_of x ≡ home_in (parts_of S) (name_of_row x)) (sym w.3) at

  lookup_finds : (e : Entity) → In e (mesh S) → lookup_of b e.dim e.number ≡ accepted (home_in (parts_of S) (name e))
  unfolding is_named ent_of
  lookup_finds e i =
      let test = is_named e.dim e.number in
      let w = mesh_in (parts_of S) (is_fit b S y a) e i in
      let p = w.0 in
      let v = part_in S p e w.2 in
      let t = in_some test (flat S) (row S p v.0) (in_flat S p (row S p v.0) (get_or_in (get_or S p []) v.0 no_row v.1))
      (eq-eqb (name e) (name_of_row (row S p v.0)) (ap name v.2)) in
      let r = first_or no_row test (flat S) in
      let f = first_or_in no_row test (flat S) t in
      lookup-rows e.dim e.number ∙ then_ok _ _ tt (must_ok 21 (some? test (flat S)) t)
      ∙ ap accepted (row_home r f.0 ∙ ap (home_in (parts_of S)) (sym (eqb→eq (name e) (name_of_row r) f.1)))

  lookup_misses : (d k : ℕ) → k < 2 ^ 32 → ((e : Entity) → In e (mesh S) → e.dim ≡ d → e.number ≡ k → ⊥) → lookup_of b d k ≡ refused 21 nowhere
  unfolding is_named ent_of
  lookup_misses d k small free = lookup-rows d k ∙ must_not 21 (some? (is_named d k) (flat S)) _ λ t.
      let w = some_in (is_named d k) (flat S) t in
      let v = row_in w.0 w.1 in
      let e = ent S v.0 v.1 in
      let few = number_lt S is_sound.copied v.0 v.1 v.2 in
      let same : name e ≡ name_of d k = sym (eqb→eq (name_of d k) (name_of_row w.0) w.2 ∙ ap name_of_row v.3) in
      free e (in_mesh (parts_of S) (is_fit b S y a) v.0 e (in_part_lem S v.0 v.1 v.2))
      (name_dim e.dim e.number d k few small same) (name-number e.dim e.number d k few small same)

-- ---- after any run of calls

-- r answers that an entity named k lives in exactly the parts of ps that hold it, and that the poorest of these owns it
pub record FoundWhereHeld (ps : Parts) (parts k : ℕ) (r : LookupAnswer) : Type 0 where
  pub residence : ℕ
  pub answer : r ≡ found_answer_of residence (record { 0 = owner_among ps (parts_in residence) })
  pub exact : (p : ℕ) → p < parts → has residence p ≡ holds (get_or ps p []) k
  pub no_more : residence < 2 ^ parts
  pub poorest : Poorest ps (parts_in residence) (owner_among ps (parts_in residence))

module _ (b : List ℕ) (parts rows : ℕ) (y : T (are_bytes b)) (k : Checks b (sound_answer_of parts rows)) (cs : List Call) (run : Run b cs) where
  now : SoundSet (held_after b cs) parts (row_total (set_held (held_after b cs)))
  now = sound_answer (held_after b cs) parts (row_total (set_held (held_after b cs))) (run_accepted b parts rows y k cs run)

  bytes : T (are_bytes (held_after b cs))
  bytes = run_bytes b parts rows y k cs run

  fit : Fit (parts_held (held_after b cs))
  fit = is_fit (held_after b cs) (set_held (held_after b cs)) bytes now.accepts

  part_count : length (parts_held (held_after b cs)) ≡ parts
  part_count = parts_count (set_held (held_after b cs)) ∙ now.count

  still : (e : Entity) → In e (mesh_held b) → In e (mesh_held (held_after b cs))
  still e i = subst (λ (es : List Entity). In e es) (sym (mesh_unchanged b parts rows y k cs run)) i

  finds : (e : Entity) → In e (mesh_held b) → (r : LookupAnswer) → LooksUp (held_after b cs) e.dim e.number r
      → r ≡ found_answer_of (residence_in (parts_held (held_after b cs)) (name e)) (record { 0 = (home_in (parts_held (held_after b cs)) (name e)).owner })
  finds e i r kept = lookup-one r _ (kept.answer ∙ lookup_finds (held_after b cs) (set_held (held_after b cs)) bytes now.accepts e (still e i))

  -- an object is found in one part, where the last call that moved it sent it or where it first was, and that part owns it
  pub object_found : (o : Entity) → In o (mesh_held b) → T (is_object (mesh_held b) (name o)) → (r : LookupAnswer) → LooksUp (held_after b cs) o.dim o.number r
      → r ≡ found_answer_of (2 ^ places_after cs (places_held b) (name o)) (record { 0 = places_after cs (places_held b) (name o) })
  object_found o i t r kept =
      let ps = parts_held (held_after b cs) in
      let p = places_after cs (places_held b) (name o) in
      let only = object_in_one_part b parts rows y k cs run o i t in
      let mask = one-residence ps fit p o only in
      let small : p < 64 = omega (arith, part_lt ps p o only.0, fit.few_parts) in
      let owner : owner_among ps (parts_in (residence_in ps (name o))) ≡ p = ap (λ (m : ℕ). owner_among ps (parts_in m)) mask ∙ one_owner ps fit p o only small in
      finds o i r kept ∙ λ j. found_answer_of (mask j) (record { 0 = owner j })

  -- any entity of the mesh is found in exactly the parts that hold it, and the poorest of these owns it
  pub entity-found : (e : Entity) → In e (mesh_held b) → (r : LookupAnswer) → LooksUp (held_after b cs) e.dim e.number r
      → FoundWhereHeld (parts_held (held_after b cs)) parts (name e) r
  entity-found e i r kept =
      let ps = parts_held (held_after b cs) in
      let m = residence_in ps (name e) in
      let w = mesh_in ps fit e (still e i) in
      record {
        residence = m;
        answer = finds e i r kept;
        exact = λ p h. has-residence ps (name e) p (subst (λ (n : ℕ). p < n) (sym part_count) h);
        no_more = subst (λ (n : ℕ). m < 2 ^ n) part_count (residence_lt ps (name e));
        poorest = owner_poorest ps (parts_in m) (parts_in_ascends m) w.0
            (in_parts_in m w.0 (omega (arith, w.1, fit.few_parts)) (holds-residence ps w.0 e w.2));
      }

  -- a dimension and a number that no entity of the mesh has are refused under 21, at no place
  pub none_found : (d n : ℕ) → n < 2 ^ 32 → ((e : Entity) → In e (mesh_held b) → e.dim ≡ d → e.number ≡ n → ⊥) → (r : LookupAnswer)
      → LooksUp (held_after b cs) d n r → r ≡ Err (record { number = 21; major = 0; minor = 0 })
  none_found d n small free r kept =
      lookup-one r _ (kept.answer ∙ lookup_misses (held_after b cs) (set_held (held_after b cs)) bytes now.accepts d n small
      (λ e i. free e (subst (λ (es : List Entity). In e es) (mesh_unchanged b parts rows y k cs run) i)))

-- ---- right after a call that moved

-- each entry's object, looked up by the entry's own dimension and number, is found in the entry's part, which owns it
pub destination_found : (b : List ℕ) (parts rows : ℕ) → T (are_bytes b) → Checks b (sound_answer_of parts rows) → (cs : List Call) (c : Call) → Run b (cs ++ (c ∷ []))
    → (n rows' objects : ℕ) → c.answer ≡ moved_answer_of n rows' objects → (i : ℕ) → i < all_entries c.list → (r : LookupAnswer)
    → LooksUp (held_after b (cs ++ (c ∷ []))) (u8_at c.list (8 * i + 4)) (u32_at c.list (8 * i)) r
    → r ≡ found_answer_of (2 ^ entry_part c.list i) (record { 0 = entry_part c.list i })
destination_found b parts rows y k cs c run n rows' objects is i h r kept =
    let before = held_after b cs in
    let after = held_after b (cs ++ (c ∷ [])) in
    let w = run_then b cs c run in
    let v = entry_lands before parts (row_total (set_held before)) (run_bytes b parts rows y k cs w.0) (run_accepted b parts rows y k cs w.0) c w.1 n rows' objects is i h in
    let o = v.0 in
    let same = mesh_unchanged b parts rows y k cs w.0 in
    let found = object_found b parts rows y k (cs ++ (c ∷ [])) run o (subst (λ (es : List Entity). In o es) same v.1)
    (subst (λ (es : List Entity). T (is_object es (name o))) same v.2) r
    (record { answer = kept.answer ∙ by_name after (u8_at c.list (8 * i + 4)) (u32_at c.list (8 * i)) o.dim o.number v.3 }) in
    found ∙ ap (λ (p : ℕ). found_answer_of (2 ^ p) (record { 0 = p })) (last_destination b parts rows y k cs c run n rows' objects is (name o) i h v.3)
