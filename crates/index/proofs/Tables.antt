-- Tables filled from the offsets of the walk are an index of the image. Assumes nothing.
use Prim.Native.Nat.{ℕ, zero, suc, ◌+◌, ◌*◌, ◌<◌, ◌≤◌, suc-le-suc}
use native.Mathlib.Nat.{add-zero, add_assoc, zero-add, not-suc-le-zero, le_of_suc-le-suc, le_refl}
use native.Mathlib.Numerals.{add-one}
use native.Mathlib.Omega.{arith}
use mathlib.Core.Path.{◌≡◌, refl, sym, ap, ap₂, ◌∙◌}
use mathlib.Core.List.{List, [], ◌∷◌, ◌++◌, map}
use mathlib.Core.Option
use mathlib.Core.Option.{Option, some}
use lib.ListN
use lib.ListN.{length, get_or, drop, length-append, length-map, get_or-append}
use lib.Seq.{sets, sets-eq, length-sets, get_or-append-add}
use Rattle.laws.specs.Lists.{flat}
use Rattle.laws.proofs.Members.{get_or_in, in_flat}
use Rattle.field.specs.Bytes.{u8_at, u32_at}
use Rattle.paper.specs.Image.{Row, Set, no_row, row_length_of, walk_parts, row_at, row_total}
use Rattle.paper.specs.Sound.{max_image, name_of_row}
use Rattle.index.specs.Index.{row_from, set_in, max_rows, Indexed, Named}
use Rattle.index.specs.Places.{length_at, name_from, row_offs, part_end, parts_end, part_offs, starts_of}
use Rattle.index.proofs.RowFields.{row_mask}
use Rattle.index.proofs.Bridge.{rows_end_room, parts_within, length-row_offs, length-part_offs, parts_at, parts_there}
use Rattle.laws.proofs.Agree.{get_or_map}

-- ---- lists of lists

-- a table that got vs from its first entry on reads as vs
pub get_or_sets : {A : Type 0} (l vs : List A) (j : ℕ) (d : A) → length vs ≤ length l → j < length vs → get_or (sets l 0 vs) j d ≡ get_or vs j d
get_or_sets {A} l vs j d fits h =
    ap (λ (t : List A). get_or t j d) (sets-eq vs l 0 (rw zero-add fits)) ∙ get_or-append vs (drop (0 + length vs) l) d j h

module _ {A : Type 0} where
  -- how many stand before list p
  abbrev before : List (List A) → ℕ → ℕ
  before [] p = 0
  before (xs ∷ xss) zero = 0
  before (xs ∷ xss) (suc p) = length xs + before xss p

  length_starts : (r : ℕ) (xss : List (List A)) → length (starts_of r xss) ≡ suc (length xss)
  unfolding starts_of
  length_starts r [] = refl
  length_starts r (xs ∷ xss) = ap suc (length_starts (r + length xs) xss)

  starts_at : (r : ℕ) (xss : List (List A)) (p : ℕ) → p ≤ length xss → get_or (starts_of r xss) p 0 ≡ r + before xss p
  unfolding starts_of
  starts_at r [] zero h = sym (add-zero r)
  starts_at r [] (suc p) h = absurd (not-suc-le-zero h)
  starts_at r (xs ∷ xss) zero h = sym (add-zero r)
  starts_at r (xs ∷ xss) (suc p) h = starts_at (r + length xs) xss p (le_of_suc-le-suc h) ∙ add_assoc r (length xs) (before xss p)

  before_zero : (xss : List (List A)) → before xss 0 ≡ 0
  before_zero [] = refl
  before_zero (xs ∷ xss) = refl

  before_next : (xss : List (List A)) (p : ℕ) → before xss (suc p) ≡ before xss p + length (get_or xss p [])
  before_next [] p = refl
  before_next (xs ∷ []) zero = omega arith
  before_next (xs ∷ ys ∷ xss) zero = omega arith
  before_next (xs ∷ xss) (suc p) = ap (λ (k : ℕ). length xs + k) (before_next xss p) ∙ sym (add_assoc (length xs) (before xss p) (length (get_or xss p [])))

  before_all : (xss : List (List A)) → before xss (length xss) ≡ length (flat xss)
  unfolding flat
  before_all [] = refl
  before_all (xs ∷ xss) = ap (λ (k : ℕ). length xs + k) (before_all xss) ∙ sym (length-append xs (flat xss))

  flat_at : (xss : List (List A)) (p s : ℕ) (d : A) → s < length (get_or xss p []) → get_or (flat xss) (before xss p + s) d ≡ get_or (get_or xss p []) s d
  unfolding flat
  flat_at [] p s d h = absurd (not-suc-le-zero h)
  flat_at (xs ∷ xss) zero s d h = rw zero-add (get_or-append xs (flat xss) d s h)
  flat_at (xs ∷ xss) (suc p) s d h =
      ap (λ (k : ℕ). get_or (xs ++ flat xss) k d) (add_assoc (length xs) (before xss p) s) ∙ get_or-append-add xs (flat xss) (before xss p + s) d
      ∙ flat_at xss p s d h

  flat_lt : (xss : List (List A)) (p s : ℕ) → s < length (get_or xss p []) → before xss p + s < length (flat xss)
  unfolding flat
  flat_lt [] p s h = absurd (not-suc-le-zero h)
  flat_lt (xs ∷ xss) zero s h = omega (arith, length-append xs (flat xss))
  flat_lt (xs ∷ xss) (suc p) s h = omega (arith, length-append xs (flat xss), flat_lt xss p s h)

  there : (xss : List (List A)) (p s : ℕ) → s < length (get_or xss p []) → p < length xss
  there [] p s h = absurd (not-suc-le-zero h)
  there (xs ∷ xss) zero s h = omega arith
  there (xs ∷ xss) (suc p) s h = suc-le-suc (there xss p s h)

  flat_map : {B : Type 0} (f : A → B) (xss : List (List A)) → length (flat (map (map f) xss)) ≡ length (flat xss)
  unfolding flat
  flat_map f [] = refl
  flat_map f (xs ∷ xss) =
      length-append (map f xs) (flat (map (map f) xss)) ∙ ap₂ (λ (i j : ℕ). i + j) (length-map xs f) (flat_map f xss)
      ∙ sym (length-append xs (flat xss))

-- ---- the rows that the offsets find

-- 48 bytes and more for each row
pub parts_room : (n : ℕ) (b : List ℕ) (o : ℕ) → o + 48 * length (flat (part_offs n b o)) ≤ parts_end n b o
unfolding part_offs parts_end flat
parts_room zero b o = omega arith
parts_room (suc n) b o =
    omega (arith, length-append (row_offs (u32_at b o) b (o + 4)) (flat (part_offs n b (part_end b o))), length-row_offs (u32_at b o) b (o + 4), rows_end_room (u32_at b o) b (o + 4), parts_room n b (part_end b o))

module _ (b : List ℕ) (O : List (List ℕ)) (p s : ℕ) where
  part-rows : get_or (map (map (row_from b)) O) p [] ≡ map (row_from b) (get_or O p [])
  part-rows = ListN.get_or-map (map (row_from b)) O p []

  part_length : length (get_or (map (map (row_from b)) O) p []) ≡ length (get_or O p [])
  part_length = ap length part-rows ∙ length-map (get_or O p []) (row_from b)

  row_at_lem : s < length (get_or O p []) → row_at (map (map (row_from b)) O) p s ≡ row_from b (get_or (get_or O p []) s 0)
  unfolding row_at
  row_at_lem h = ap (λ (rows : List Row). get_or rows s no_row) part-rows ∙ get_or_map (row_from b) (get_or O p []) s 0 no_row h

-- ---- the index

module _ (b : List ℕ) (n : ℕ) (is : n ≡ u8_at b 5) (full : parts_end n b 8 ≡ length b) where
  walk_is : walk_parts (u8_at b 5) (drop 8 b) ≡ some (parts_at n b 8)
  walk_is = ap (λ (k : ℕ). walk_parts k (drop 8 b)) (sym is) ∙ parts_there n b 8 full

  set_is : set_in b ≡ parts_at n b 8
  unfolding set_in
  set_is = ap (λ (o : Option Set). Option.get_or o []) walk_is

  pub walk_found : walk_parts (u8_at b 5) (drop 8 b) ≡ some (set_in b)
  walk_found = walk_is ∙ ap some (sym set_is)

  pub total_is : length (flat (part_offs n b 8)) ≡ row_total (set_in b)
  unfolding row_total
  total_is = sym (ap (λ (S : Set). length (flat S)) set_is ∙ flat_map (row_from b) (part_offs n b 8))

  module _ (offs₀ starts₀ keys₀ : List ℕ) (small : length b ≤ max_image) (few : n ≤ 64) (offs_room : max_rows + 1 ≤ length offs₀) (starts_room : 65 ≤ length starts₀) (keys_room : max_rows + 1 ≤ length keys₀) where
    total_few : length (flat (part_offs n b 8)) ≤ max_rows
    total_few = omega (arith, parts_room n b 8)

    offs_at : (p s : ℕ) → s < length (get_or (part_offs n b 8) p [])
        → get_or (sets offs₀ 0 (flat (part_offs n b 8))) (before (part_offs n b 8) p + s) 0 ≡ get_or (get_or (part_offs n b 8) p []) s 0
    offs_at p s h =
        get_or_sets offs₀ (flat (part_offs n b 8)) (before (part_offs n b 8) p + s) 0 (omega (arith, total_few)) (flat_lt (part_offs n b 8) p s h)
        ∙ flat_at (part_offs n b 8) p s 0 h

    start_at : (p : ℕ) → p ≤ n → get_or (sets starts₀ 0 (starts_of 0 (part_offs n b 8))) p 0 ≡ before (part_offs n b 8) p
    start_at p h =
        let long = length_starts 0 (part_offs n b 8) in
        let count = length-part_offs n b 8 in
        get_or_sets starts₀ (starts_of 0 (part_offs n b 8)) p 0 (omega (arith, long, count)) (omega (arith, long, count))
        ∙ starts_at 0 (part_offs n b 8) p (omega (arith, count)) ∙ zero-add (before (part_offs n b 8) p)

    part_len : (p s : ℕ) → s < length (get_or (set_in b) p []) → s < length (get_or (part_offs n b 8) p [])
    part_len p s h = rw (set_is, part_length b (part_offs n b 8) p s) at h

    -- where row s of part p is written in the table of offsets
    place : (p s : ℕ) → s < length (get_or (set_in b) p [])
        → get_or (sets offs₀ 0 (flat (part_offs n b 8))) (get_or (sets starts₀ 0 (starts_of 0 (part_offs n b 8))) p 0 + s) 0 ≡ get_or (get_or (part_offs n b 8) p []) s 0
    place p s h =
        let g = part_len p s h in
        let e = start_at p (omega (arith, there (part_offs n b 8) p s g, length-part_offs n b 8)) in
        ap (λ (k : ℕ). get_or (sets offs₀ 0 (flat (part_offs n b 8))) (k + s) 0) e ∙ offs_at p s g

    row_of : (p s : ℕ) → s < length (get_or (set_in b) p []) → row_at (set_in b) p s ≡ row_from b (get_or (get_or (part_offs n b 8) p []) s 0)
    row_of p s h = ap (λ (S : Set). row_at S p s) set_is ∙ row_at_lem b (part_offs n b 8) p s (part_len p s h)

    row_there : (p s : ℕ) → s < length (get_or (set_in b) p []) → get_or (get_or (part_offs n b 8) p []) s 0 + row_length_of (row_at (set_in b) p s).mask ≤ length b
    row_there p s h =
        let o = get_or (get_or (part_offs n b 8) p []) s 0 in
        let e : row_length_of (row_at (set_in b) p s).mask ≡ length_at b o = ap (λ (r : Row). row_length_of r.mask) (row_of p s h) ∙ ap row_length_of (row_mask b o) in
        let i = in_flat (part_offs n b 8) p o (get_or_in (get_or (part_offs n b 8) p []) s 0 (part_len p s h)) in
        omega (arith, e, full, parts_within n b 8 o i)

    pub indexed : Indexed b (sets offs₀ 0 (flat (part_offs n b 8))) (sets starts₀ 0 (starts_of 0 (part_offs n b 8))) n
    unfolding row_total
    indexed =
        let long = length_starts 0 (part_offs n b 8) in
        let count = length-part_offs n b 8 in
        let all = start_at n (le_refl n) ∙ ap (before (part_offs n b 8)) (sym count) ∙ before_all (part_offs n b 8) in
        record {
          small = small;
          few = few;
          count = ap length set_is ∙ length-map (part_offs n b 8) (map (row_from b)) ∙ count;
          offs_room = rw length-sets offs_room;
          starts_room = rw length-sets starts_room;
          first = start_at 0 (omega arith) ∙ before_zero (part_offs n b 8);
          next = λ p h. start_at (p + 1) (omega arith) ∙ ap (before (part_offs n b 8)) (add-one p) ∙ before_next (part_offs n b 8) p
              ∙ ap₂ (λ (i j : ℕ). i + j) (sym (start_at p (omega arith))) (sym (ap (λ (S : Set). length (get_or S p [])) set_is ∙ part_length b (part_offs n b 8) p 0));
          total = all ∙ total_is;
          total_few = omega (arith, all, total_few);
          row = λ p s h. row_of p s h ∙ ap (row_from b) (sym (place p s h));
          there = λ p s h. omega (arith, place p s h, row_there p s h);
        }

    pub named : Named b (sets starts₀ 0 (starts_of 0 (part_offs n b 8))) (sets keys₀ 0 (map (name_from b) (flat (part_offs n b 8))))
    unfolding name_from
    named = record {
      room = rw length-sets keys_room;
      key = λ p s h.
          let g = part_len p s h in
          let e = start_at p (omega (arith, there (part_offs n b 8) p s g, length-part_offs n b 8)) in
          let names = map (name_from b) (flat (part_offs n b 8)) in
          let long = length-map (flat (part_offs n b 8)) (name_from b) in
          let i = before (part_offs n b 8) p + s in
          let l = flat_lt (part_offs n b 8) p s g in
          ap (λ (k : ℕ). get_or (sets keys₀ 0 names) (k + s) 0) e
          ∙ get_or_sets keys₀ names i 0 (omega (arith, long, total_few)) (omega (arith, long, l))
          ∙ get_or_map (name_from b) (flat (part_offs n b 8)) i 0 0 l
          ∙ ap (name_from b) (flat_at (part_offs n b 8) p s 0 g)
          ∙ ap name_of_row (sym (row_of p s h));
    }
