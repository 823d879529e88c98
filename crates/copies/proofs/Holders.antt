-- The parts that hold a name, by the keys of their rows. Assumes nothing.
use Prim.Native.Nat.{ℕ, ◌+◌, ◌-◌, ◌<◌}
use native.Mathlib.Nat.{lt_of_not-le}
use native.Mathlib.Decide.{dec_le}
use native.Mathlib.Omega.{arith}
use mathlib.Core.Path.{◌≡◌, refl, sym, ap, ap₂, ◌∙◌, subst}
use mathlib.Core.Bool.{Bool, true, false, not, ◌&&◌, ◌||◌}
use mathlib.Core.List.{List, [], map}
use lib.ListN.{length, get_or, length-map}
use lib.Seq.{ext_get_or}
use Rattle.std.specs.Prelude.{Result, Ok, Err}
use Rattle.std.specs.Result.{is_ok}
use Rattle.laws.specs.Lists.{In, every, up_to, member}
use Rattle.laws.proofs.Tests.{T_true, and_l, no_T}
use Rattle.laws.proofs.Members.{in_map, map_in, member_in, in_member}
use Rattle.laws.proofs.Ranges.{in_up_to, up_to_in, length_up_to, get_or_up_to}
use Rattle.laws.proofs.Agree.{get_or_map, every-same}
use Rattle.field.specs.Bytes.{u64_at}
use Rattle.part_set.specs.Masks.{has, others}
use Rattle.paper.specs.Image.{Row, Set, no_row, row_at}
use Rattle.paper.specs.declared.Slot.{Slot}
use Rattle.paper.specs.Sound.{name_of_row, twin_agrees, copies_agree, judged}
use Rattle.index.specs.Index.{row_from, set_in}
use Rattle.index.specs.Find.{Hit, Miss, Sought}
use Rattle.index.proofs.RowFields.{row_mask}
use Rattle.index.proofs.Answers.{searchable}
use Rattle.paper.specs.declared.Rule.TheVariants.{Copies}
use Rattle.demands.specs.Passed.{Passed}
use Rattle.copies.specs.Copies.{twins_agree, TwinsPassed, Ready, part_keys, holders_all_listed, AllSearchable}
use Rattle.rows.proofs.Laws.{part-rows}
use Rattle.copies.proofs.Placed.{Stands, order_passed}

-- ---- what the search finds

module _ {keys starts : List ℕ} {q name s : ℕ} where
  pub hit-held : Hit keys starts q name s → true ≡ member name (part_keys keys starts q)
  unfolding part_keys
  hit-held h =
      let size = get_or starts (q + 1) 0 - get_or starts q 0 in
      let key : ℕ → ℕ = λ i. get_or keys (get_or starts q 0 + i) 0 in
      let there = in_map key (up_to size) s (in_up_to size s (omega (arith, h.inside))) in
      sym (T_true (member name (map key (up_to size))) (in_member name (map key (up_to size)) (subst (λ (x : ℕ). In x (map key (up_to size))) h.same there)))

  pub miss_absent : Miss keys starts q name s → false ≡ member name (part_keys keys starts q)
  unfolding part_keys
  miss_absent m =
      let size = get_or starts (q + 1) 0 - get_or starts q 0 in
      let key : ℕ → ℕ = λ i. get_or keys (get_or starts q 0 + i) 0 in
      sym (no_T (member name (map key (up_to size)))
      (λ t.
      let w = map_in key (up_to size) name (member_in name (map key (up_to size)) t) in
      let l = up_to_in size w.0 w.1 in
      elim (dec_le s w.0) [
        | yes le ↦ omega (arith, m.above w.0 le (omega arith), w.2)
        | no gt ↦ omega (arith, m.below w.0 (lt_of_not-le gt), w.2)
      ]))

pub found_held : (keys starts : List ℕ) (q name : ℕ) (r : Result Slot Slot) → Sought keys starts q name r → is_ok r ≡ member name (part_keys keys starts q)
unfolding Sought
found_held keys starts q name (Ok s) hit = hit-held hit
found_held keys starts q name (Err s) miss = miss_absent miss

-- ---- one part

module _ {held in? h i : Bool} (e : held ≡ h) (f : in? ≡ i) where
  pub not_listed : (held && not in?) ≡ true → (not h || i) ≡ false
  not_listed t = ap₂ (λ (x y : Bool). not x || y) (sym e) (sym f) ∙ go held in? t
    where
      go : (x y : Bool) → (x && not y) ≡ true → (not x || y) ≡ false
      go true true t = sym t
      go true false t = refl
      go false y t = sym t

  pub listed : (held && not in?) ≡ false → (not h || i) ≡ true
  listed t = ap₂ (λ (x y : Bool). not x || y) (sym e) (sym f) ∙ go held in? t
    where
      go : (x y : Bool) → (x && not y) ≡ false → (not x || y) ≡ true
      go true true t = refl
      go true false t = sym t
      go false y t = refl

-- ---- all parts of an image

module _ {b offs starts keys : List ℕ} (ready : Ready b offs starts keys) where
  pub all_searchable : {n : ℕ} → n ≡ length (set_in b) → AllSearchable keys starts n
  unfolding judged
  all_searchable {n} e = record {
    few = omega (arith, ready.index.few);
    each = λ q h. searchable ready.index q (omega arith) ready.names (λ s l. order_passed ready q s l);
  }

  part_keys_lem : (q : ℕ) → q < length (set_in b) → part_keys keys starts q ≡ map name_of_row (get_or (set_in b) q [])
  unfolding part_keys row_at
  part_keys_lem q h =
      let rows = get_or (set_in b) q [] in
      let n = get_or starts (q + 1) 0 - get_or starts q 0 in
      let key : ℕ → ℕ = λ i. get_or keys (get_or starts q 0 + i) 0 in
      let long : length (map key (up_to n)) ≡ n = length-map (up_to n) key ∙ length_up_to n in
      let all : n ≡ length rows = part-rows ready.index q h in
      ext_get_or 0 (map key (up_to n)) (map name_of_row rows) (long ∙ all ∙ sym (length-map rows name_of_row))
      (λ i l.
      let k : i < n = omega (arith, long) in
      get_or_map key (up_to n) i 0 0 (omega (arith, length_up_to n)) ∙ ap key (get_or_up_to n i 0 k)
      ∙ ready.names.key q i (omega (arith, all)) ∙ sym (get_or_map name_of_row rows i no_row 0 (omega (arith, all))))

  module _ {p s o : ℕ} (st : Stands b p s o) {n mask name : ℕ} (parts : n ≡ length (set_in b)) (read : mask ≡ u64_at b (o + 8)) (called : name ≡ name_of_row (row_from b o)) where
    holders_are : holders_all_listed keys starts n mask name
        ≡ every (λ q. not (member (name_of_row (row_at (set_in b) p s)) (map name_of_row (get_or (set_in b) q []))) || has (row_at (set_in b) p s).mask q) (up_to (length (set_in b)))
    unfolding holders_all_listed
    holders_are =
        let r = row_at (set_in b) p s in
        let m : mask ≡ r.mask = read ∙ sym (row_mask b o) ∙ sym (ap (λ (r : Row). r.mask) st.row) in
        let k : name ≡ name_of_row r = called ∙ sym (ap name_of_row st.row) in
        ap (λ (i : ℕ). every (λ q. not (member name (part_keys keys starts q)) || has mask q) (up_to i)) parts
        ∙ every-same (λ q. not (member name (part_keys keys starts q)) || has mask q) (λ q. not (member (name_of_row r) (map name_of_row (get_or (set_in b) q []))) || has r.mask q) (up_to (length (set_in b)))
        (λ q i.
        ap₂ (λ (x y : Bool). not x || y) (ap₂ member k (part_keys_lem q (up_to_in (length (set_in b)) q i))) (ap (λ (m : ℕ). has m q) m))

    -- the two halves of the rule
    module _ {twins : Bool} (first : twins ≡ twins_agree (set_in b) p s) where
      halves : judged Copies (set_in b) p s ≡ (twins && holders_all_listed keys starts n mask name)
      unfolding judged twins_agree copies_agree
      halves = ap₂ ◌&&◌ (sym first) (sym holders_are)

      pub copies-judged : twins ≡ true → {rest : Bool} → rest ≡ holders_all_listed keys starts n mask name → rest ≡ judged Copies (set_in b) p s
      copies-judged e f = f ∙ sym (halves ∙ ap (λ (x : Bool). x && holders_all_listed keys starts n mask name) e)

pub twins_fail : (S : Set) (p s : ℕ) {twins : Bool} → twins ≡ twins_agree S p s → twins ≡ false → false ≡ judged Copies S p s
unfolding judged twins_agree copies_agree
twins_fail S p s first e =
    let r = row_at S p s in
    sym (ap (λ (x : Bool). x && every (λ q. not (member (name_of_row r) (map name_of_row (get_or S q []))) || has r.mask q) (up_to (length S))) (sym first ∙ e))

-- rule 10 is more than that the twins agree
pub twins_pass : (S : Set) → Passed Copies S → TwinsPassed S
unfolding judged twins_agree copies_agree
twins_pass S pass p s h =
    let r = row_at S p s in
    and_l (every (twin_agrees S p s) (others r.mask p))
    (every (λ q. not (member (name_of_row r) (map name_of_row (get_or S q []))) || has r.mask q) (up_to (length S))) (pass p s h)
