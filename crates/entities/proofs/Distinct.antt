-- Rule 10 by the lowest copies: the names of these are distinct exactly where, in a set whose twins agree, all copies do. Assumes nothing.
use Prim.Native.Nat.{ℕ, zero, suc, ◌+◌, ◌-◌, ◌≤◌, ◌<◌}
use native.Mathlib.Decide.{dec_le}
use native.Mathlib.Nat.{lt_of_not-le}
use native.Mathlib.Omega.{arith}
use mathlib.Core.Path.{◌≡◌, refl, sym, ap, ◌∙◌, subst}
use mathlib.Core.Bool.{true, not, ◌||◌}
use mathlib.Core.Logic.{◌⊎◌, inl, inr}
use mathlib.Core.List.{List, [], ◌∷◌, map}
use lib.ListN.{length, get_or, length-map}
use lib.Dec.{T, eqb→eq, T_not}
use Rattle.std.specs.Prelude.{Result, is_ok}
use Rattle.laws.specs.Lists.{In, every, keep, ascending, up_to, member}
use Rattle.laws.proofs.Tests.{T_true, true_T, split2, or_either, eq-eqb}
use Rattle.laws.proofs.Members.{every_in, map_in, in_map, in_member, keep_in, get_or_in, part_lt}
use Rattle.laws.proofs.Agree.{get_or_map, map_of_map}
use Rattle.laws.proofs.Ascending.{asc_head, asc_get_or, asc_keep, asc_map}
use Rattle.laws.proofs.Keyed.{ascends_uniq}
use Rattle.laws.proofs.Ranges.{length_up_to, get_or_up_to, up_to_in, in_up_to, asc_up_to}
use Rattle.part_set.specs.Masks.{has, others, parts_in, lowest_of}
use Rattle.part_set.proofs.MaskParts.{parts_in_ascends, in_parts_in}
use Rattle.merge.specs.Runs.{key_in}
use Rattle.merge.proofs.Pairing.{merge_all_ascends}
use Rattle.paper.specs.Image.{Set, no_row, row_at}
use Rattle.paper.specs.Sound.{name_of_row, twin_agrees, copies_agree}
use Rattle.demands.proofs.Sound.Rows.{row, rows_ascend}
use Rattle.demands.proofs.ForCode.Lowest.{Low, copies_by_lowest}
use Rattle.index.specs.Index.{set_in, Indexed, Named}
use Rattle.paper.specs.declared.Rule.TheVariants.{Fields, Order, Copies}
use Rattle.copies.specs.Copies.{twins_agree, TwinsPassed}
use Rattle.paper.specs.Sound.{judged}
use Rattle.demands.specs.Passed.{Passed}
use Rattle.entities.specs.declared.Repeated.{Repeated}
use Rattle.entities.specs.LowestCopies.{is_low, low_rows, low_runs, by_name, Entities}
use Rattle.rows.proofs.Laws.{part_there}
use Rattle.entities.proofs.Own.{own, own_in}
use Rattle.entities.proofs.Members.{low_rows_in, low_listed}

-- ---- the lowest part of a set

first_in : (xs : List ℕ) (p : ℕ) → In p xs → In (get_or xs 0 64) xs
first_in [] p i = absurd i
first_in (x ∷ xs) p i = inl refl

first_least : (xs : List ℕ) → T (ascending xs) → (p : ℕ) → In p xs → get_or xs 0 64 ≤ p
first_least [] t p i = absurd i
first_least (x ∷ xs) t p (inl e) = omega arith
first_least (x ∷ xs) t p (inr i) = omega (arith, asc_head x xs t p i)

pub lowest_in : (m p : ℕ) → In p (parts_in m) → In (lowest_of m) (parts_in m)
unfolding lowest_of
lowest_in m p i = first_in (parts_in m) p i

pub lowest_least : (m p : ℕ) → In p (parts_in m) → lowest_of m ≤ p
unfolding lowest_of
lowest_least m p i = first_least (parts_in m) (parts_in_ascends m) p i

pub low_lowest : (S : Set) (p s : ℕ) → T (is_low S p s) → lowest_of (row_at S p s).mask ≡ p
unfolding is_low
low_lowest S p s t = eqb→eq (lowest_of (row_at S p s).mask) p t

pub lowest_low : (S : Set) (p s : ℕ) → lowest_of (row_at S p s).mask ≡ p → T (is_low S p s)
unfolding is_low
lowest_low S p s e = eq-eqb (lowest_of (row_at S p s).mask) p e

-- ---- rows of an indexed image

module _ {b offs starts : List ℕ} {n : ℕ} (index : Indexed b offs starts n) where
  climbs : (k p : ℕ) → p + 1 + k ≤ n → get_or starts p 0 + length (get_or (set_in b) p []) ≤ get_or starts (p + 1 + k) 0
  climbs zero p h = let e : p + 1 + 0 ≡ p + 1 = omega arith in rw e (omega (arith, index.next p (omega arith)))
  climbs (suc k) p h =
      let e : p + 1 + suc k ≡ p + 1 + k + 1 = omega arith in
      let before = climbs k p (omega arith) in
      rw e (omega (arith, index.next (p + 1 + k) (omega arith)))

  before-part : (p q : ℕ) → p < q → q < n → get_or starts p 0 + length (get_or (set_in b) p []) ≤ get_or starts q 0
  before-part p q h l = let e : p + 1 + (q - (p + 1)) ≡ q = omega arith in rw e at (climbs (q - (p + 1)) p (omega arith))

  -- a row is in one part
  pub one-part : (p s q t : ℕ) → s < length (get_or (set_in b) p []) → t < length (get_or (set_in b) q []) → get_or starts p 0 + s ≡ get_or starts q 0 + t → p ≡ q
  one-part p s q t hs ht e =
      let up : p < q → ⊥ = λ l. omega (arith, before-part p q l (part_there index q t ht), e, hs) in
      let down : q < p → ⊥ = λ l. omega (arith, before-part q p l (part_there index p s hs), e, ht) in
      elim (dec_le p q) [ yes x ↦ elim (dec_le q p) [ yes y ↦ omega arith | no y ↦ absurd (up (lt_of_not-le y)) ] | no x ↦ absurd (down (lt_of_not-le x)) ]

-- ---- rule 8

ordered_names : (S : Set) → Passed Order S → (p : ℕ) → T (ascending (map name_of_row (get_or S p [])))
unfolding judged
ordered_names S order p = rows_ascend (get_or S p []) (λ s h. order p s h)

names_up : (S : Set) → Passed Order S → (p a c : ℕ) → a < c → c < length (get_or S p []) → name_of_row (row_at S p a) < name_of_row (row_at S p c)
unfolding row_at
names_up S order p a c l h =
    let rows = get_or S p [] in
    let n = length-map rows name_of_row in
    omega (
      arith,
      asc_get_or (map name_of_row rows) (ordered_names S order p) a c l (omega (arith, n)),
      get_or_map name_of_row rows a no_row 0 (omega arith),
      get_or_map name_of_row rows c no_row 0 h,
    )

-- ---- rule 10, the other half

-- a part that holds the name of a row is in the row's set
holder : (S : Set) → Passed Copies S → (p s q t : ℕ) → s < length (get_or S p []) → t < length (get_or S q []) → name_of_row (row_at S p s) ≡ name_of_row (row_at S q t)
    → T (has (row_at S p s).mask q)
unfolding judged copies_agree row_at
holder S copies p s q t hs ht e =
    let r = get_or (get_or S p []) s no_row in
    let c = split2 (every (twin_agrees S p s) (others r.mask p))
    (every (λ q. not (member (name_of_row r) (map name_of_row (get_or S q []))) || has r.mask q) (up_to (length S))) (copies p s hs) in
    let w = get_or (get_or S q []) t no_row in
    let i : In w (get_or S q []) = get_or_in (get_or S q []) t no_row ht in
    let m : T (member (name_of_row r) (map name_of_row (get_or S q []))) =
    subst (λ (k : ℕ). T (member k (map name_of_row (get_or S q [])))) (sym e) (in_member (name_of_row w) (map name_of_row (get_or S q [])) (in_map name_of_row (get_or S q []) w i)) in
    go m (or_either (not (member (name_of_row r) (map name_of_row (get_or S q [])))) (has r.mask q)
    (every_in (λ q. not (member (name_of_row r) (map name_of_row (get_or S q []))) || has r.mask q) (up_to (length S)) c.1 q
    (in_up_to (length S) q (part_lt S q w i))))
  where
    go : T (member (name_of_row (get_or (get_or S p []) s no_row)) (map name_of_row (get_or S q [])))
        → T (not (member (name_of_row (get_or (get_or S p []) s no_row)) (map name_of_row (get_or S q [])))) ⊎ T (has (get_or (get_or S p []) s no_row).mask q)
        → T (has (get_or (get_or S p []) s no_row).mask q)
    go m (inl x) = absurd (T_not (member (name_of_row (get_or (get_or S p []) s no_row)) (map name_of_row (get_or S q []))) x m)
    go m (inr x) = x

-- ---- the laws

module _ {b offs starts keys : List ℕ} {n : ℕ} (index : Indexed b offs starts n) (named : Named b starts keys)
    (fields : Passed Fields (set_in b)) (order : Passed Order (set_in b)) where
  own_row : (p s : ℕ) → s < length (get_or (set_in b) p []) → (p < 64) × T (has (row (set_in b) p s).mask p)
  unfolding row_at
  own_row p s h = (omega (arith, part_there index p s h, index.few), own (set_in b) fields p s h)

  -- a lowest copy is listed
  low_there : (p s : ℕ) → s < length (get_or (set_in b) p []) → Low (set_in b) p s → In (get_or starts p 0 + s) (by_name (set_in b) starts keys n)
  unfolding row_at
  low_there p s h low =
      let m = (row_at (set_in b) p s).mask in
      let i = own_in (set_in b) fields p s h (omega (arith, index.few, index.count)) in
      low_listed (set_in b) starts keys n p s (part_there index p s h) h
      (lowest_low (set_in b) p s (omega (arith, low (lowest_of m) (lowest_in m p i), lowest_least m p i)))

  -- distinct names of the lowest copies, and twins that agree: all copies agree
  pub ascending-copies : TwinsPassed (set_in b) → T (ascending (map (key_in keys) (by_name (set_in b) starts keys n))) → Passed Copies (set_in b)
  unfolding judged twins_agree row_at
  ascending-copies twins t =
      copies_by_lowest (set_in b) own_row (ordered_names (set_in b) order) (λ p s h. twins p s h)
      (λ p s q u hs hu lp lq e.
      let same = ascends_uniq (key_in keys) (by_name (set_in b) starts keys n) t (get_or starts p 0 + s) (get_or starts q 0 + u) (low_there p s hs lp) (low_there q u hu lq)
      (named.key p s hs ∙ e ∙ sym (named.key q u hu)) in
      one-part index p s q u hs hu same)

  -- ---- and back

  run_ascends : (p : ℕ) → T (ascending (map (key_in keys) (low_rows (set_in b) starts p)))
  unfolding low_rows
  run_ascends p =
      let S = set_in b in
      let m = length (get_or S p []) in
      let ks = keep (is_low S p) (up_to m) in
      let below : (a : ℕ) → In a ks → a < m = λ a i. up_to_in m a (keep_in (is_low S p) (up_to m) a i).0 in
      subst (λ (l : List ℕ). T (ascending l)) (sym (map_of_map (key_in keys) (λ s. get_or starts p 0 + s) ks))
      (asc_map (λ s. key_in keys (get_or starts p 0 + s)) ks
      (λ a c i j l. omega (arith, named.key p a (below a i), named.key p c (below c j), names_up S order p a c l (below c j)))
      (asc_keep (is_low S p) (up_to m) (asc_up_to m)))

  in_run : (i g : ℕ) → In g (get_or (low_runs (set_in b) starts n) i []) → In g (low_rows (set_in b) starts i)
  unfolding low_runs
  in_run i g j =
      let f = low_rows (set_in b) starts in
      let l : i < length (up_to n) = omega (arith, part_lt (map f (up_to n)) i g j, length-map (up_to n) f) in
      let e : get_or (map f (up_to n)) i [] ≡ f i = get_or_map f (up_to n) i 0 [] l ∙ ap f (get_or_up_to n i 0 (omega (arith, l, length_up_to n))) in
      subst (λ (xs : List ℕ). In g xs) e j

  -- two lowest copies in different parts have different names
  apart : Passed Copies (set_in b) → (p q : ℕ) → (p ≡ q → ⊥) → (g h : ℕ) → In g (low_rows (set_in b) starts p) → In h (low_rows (set_in b) starts q)
      → key_in keys g ≡ key_in keys h → ⊥
  apart copies p q ne g h i j e =
      let S = set_in b in
      let v = low_rows_in S starts p g i in
      let w = low_rows_in S starts q h j in
      let s = v.0 in
      let t = w.0 in
      let names : name_of_row (row_at S p s) ≡ name_of_row (row_at S q t) =
      sym (named.key p s v.1) ∙ ap (key_in keys) (sym v.3) ∙ e ∙ ap (key_in keys) w.3 ∙ named.key q t w.1 in
      let hp = own_row p s v.1 in
      let hq = own_row q t w.1 in
      let a = lowest_least (row_at S p s).mask q (in_parts_in (row_at S p s).mask q hq.0 (holder S copies p s q t v.1 w.1 names)) in
      let c = lowest_least (row_at S q t).mask p (in_parts_in (row_at S q t).mask p hp.0 (holder S copies q t p s w.1 v.1 (sym names))) in
      ne (omega (arith, a, c, low_lowest S p s v.2, low_lowest S q t w.2))

  each_run : (r : List ℕ) → In r (low_runs (set_in b) starts n) → T (ascending (map (key_in keys) r))
  unfolding low_runs
  each_run r i = let w = map_in (low_rows (set_in b) starts) (up_to n) r i in subst (λ (l : List ℕ). T (ascending (map (key_in keys) l))) (sym w.2) (run_ascends w.0)

  pub copies-ascending : Passed Copies (set_in b) → T (ascending (map (key_in keys) (by_name (set_in b) starts keys n)))
  unfolding by_name
  copies-ascending copies =
      merge_all_ascends (key_in keys) (low_runs (set_in b) starts n) each_run
      (λ i j ne g h x y e. apart copies i j ne g h (in_run i g x) (in_run j h y) e)

  -- of what `entities` answers
  module _ {ord tmp ord' tmp' : List ℕ} {r : Result ℕ Repeated} (e : Entities (set_in b) starts keys ord tmp ord' tmp' n r) where
    pub distinct_copies : TwinsPassed (set_in b) → is_ok r ≡ true → Passed Copies (set_in b)
    distinct_copies twins d =
        ascending-copies twins
        (true_T (ascending (map (key_in keys) (by_name (set_in b) starts keys n))) (sym (e.distinct ∙ ap (λ (l : List ℕ). ascending (map (key_in keys) l)) e.rows) ∙ d))

    pub copies_distinct : Passed Copies (set_in b) → is_ok r ≡ true
    copies_distinct copies =
        e.distinct ∙ ap (λ (l : List ℕ). ascending (map (key_in keys) l)) e.rows
        ∙ T_true (ascending (map (key_in keys) (by_name (set_in b) starts keys n))) (copies-ascending copies)
