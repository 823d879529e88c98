-- A turn of the loop of `walk`, on plain values. Assumes nothing.
use Prim.Native.Nat.{ℕ, suc, ◌+◌, ◌-◌, ◌*◌, ◌≤◌, ◌<◌}
use native.Mathlib.Decide.{dec_le}
use native.Mathlib.Nat.{lt_of_not-le, add-zero, add_assoc}
use native.Mathlib.Numerals.{add-one}
use native.Mathlib.Omega.{arith}
use mathlib.Core.Path.{◌≡◌, refl, sym, ap, ◌∙◌}
use mathlib.Core.List.{List, [], ◌∷◌, ◌++◌, map, map-append}
use lib.ListN.{length, drop, set, length-set, length-append, length-map}
use lib.Seq.{sets}
use Rattle.std.specs.Prelude.{Option, Some, None}
use borrow.Author.Tests.{le-leb, lt-leb}
use Rattle.laws.specs.Lists.{flat}
use Rattle.field.specs.Bytes.{u8_at, u32_at}
use Rattle.paper.specs.Image.{walk_parts}
use Rattle.paper.specs.Sound.{max_image}
use Rattle.index.specs.Index.{max_rows}
use Rattle.index.specs.Places.{name_from, rows_end, row_offs, part_end, parts_end, part_offs, starts_of}
use Rattle.index.specs.Walk.{end_in, RowsWalked, Walkable, Answered, WalkDone}
use Rattle.index.proofs.HeadLaws.{headed, parts_few}
use Rattle.index.proofs.Bridge.{rows_end_room, parts_end_room, length-row_offs, parts_short}
use Rattle.index.proofs.Tables.{walk_found, total_is, indexed, named}

-- ---- what an answer of `walk_rows` tells

pub ended_at : (len e to : ℕ) → Some to ≡ end_in len e → (e ≡ to) × (e ≤ len)
ended_at len e to q = elim (dec_le e len) [ yes h ↦ (let k : Some to ≡ Some e = simp (le-leb e len h) at q in cc, h) | no h ↦ (let k : Some to ≡ None = simp (lt-leb e len (lt_of_not-le h)) at q in let z : ◌≡◌ {A = ℕ} 0 1 = cc in absurd (omega arith)) ]

pub ended_over : (len e : ℕ) → None ≡ end_in len e → len < e
ended_over len e q = elim (dec_le e len) [ yes h ↦ (let k : None ≡ Some e = simp (le-leb e len h) at q in let z : ◌≡◌ {A = ℕ} 0 1 = cc in absurd (omega arith)) | no h ↦ lt_of_not-le h ]

-- ---- lists

sets_append : {A : Type 0} (l : List A) (i : ℕ) (xs ys : List A) → sets l i (xs ++ ys) ≡ sets (sets l i xs) (i + length xs) ys
sets_append l i [] ys = rw add-zero
sets_append l i (x ∷ xs) ys = let e : i + suc (length xs) ≡ suc i + length xs = omega arith in rw e (sets_append (set l i x) (suc i) xs ys)

sub_step : (n p : ℕ) → p < n → n - p ≡ suc (n - (p + 1))
sub_step n p h = omega arith

-- ---- the loop

-- what does not change
pub record Fixed (b : List ℕ) (n : ℕ) (offs₀ starts₀ keys₀ : List ℕ) : Type 0 where
  pub small : length b ≤ max_image
  pub long : 8 ≤ length b
  pub few : n ≤ 64
  pub is : n ≡ u8_at b 5
  pub offs_room : max_rows + 1 ≤ length offs₀
  pub starts_room : 65 ≤ length starts₀
  pub keys_room : max_rows + 1 ≤ length keys₀

-- what is left to do from here gives what was to be done from the start
pub record PartsInv (b : List ℕ) (n : ℕ) (offs₀ starts₀ keys₀ offs starts keys : List ℕ) (p o r : ℕ) : Type 0 where
  pub fixed : Fixed b n offs₀ starts₀ keys₀
  pub scaled : 48 * r ≤ o
  pub inside : o ≤ length b
  pub same_offs : length offs ≡ length offs₀
  pub same_starts : length starts ≡ length starts₀
  pub same_keys : length keys ≡ length keys₀
  pub ends : parts_end (n - p) b o ≡ parts_end n b 8
  pub rows : r + length (flat (part_offs (n - p) b o)) ≡ length (flat (part_offs n b 8))
  pub fills : sets offs r (flat (part_offs (n - p) b o)) ≡ sets offs₀ 0 (flat (part_offs n b 8))
  pub names : sets keys r (map (name_from b) (flat (part_offs (n - p) b o))) ≡ sets keys₀ 0 (map (name_from b) (flat (part_offs n b 8)))
  pub marks : sets starts p (starts_of r (part_offs (n - p) b o)) ≡ sets starts₀ 0 (starts_of 0 (part_offs n b 8))

pub fixed_of : (b : List ℕ) (n : ℕ) (offs starts keys : List ℕ) → Walkable b offs starts keys → n ≡ u8_at b 5 → Fixed b n offs starts keys
fixed_of b n offs starts keys w e =
    let h = headed b w.head in
    record {
      small = h.small;
      long = h.long;
      few = omega (arith, parts_few b h);
      is = e;
      offs_room = w.offs_room;
      starts_room = w.starts_room;
      keys_room = w.keys_room;
    }

module _ {b : List ℕ} {n : ℕ} {offs₀ starts₀ keys₀ : List ℕ} where
  pub parts_start : Fixed b n offs₀ starts₀ keys₀ → PartsInv b n offs₀ starts₀ keys₀ offs₀ starts₀ keys₀ 0 8 0
  parts_start f =
      let e : n - 0 ≡ n = omega arith in
      record {
        fixed = f;
        scaled = omega arith;
        inside = f.long;
        same_offs = refl;
        same_starts = refl;
        same_keys = refl;
        ends = rw e;
        rows = rw e (omega arith);
        fills = rw e;
        names = rw e;
        marks = rw e;
      }

  module _ (offs starts keys : List ℕ) (p o r : ℕ) (v : PartsInv b n offs₀ starts₀ keys₀ offs starts keys p o r) where
    -- the parts do not fill the image
    bad : {offs' starts' keys' : List ℕ} → length offs' ≡ length offs → length starts' ≡ length starts → length keys' ≡ length keys
        → (parts_end n b 8 ≡ length b → ⊥) → WalkDone b offs₀ starts₀ keys₀ offs' starts' keys' None
    unfolding Answered
    bad so ss sk h = record {
      same_offs = so ∙ v.same_offs;
      same_starts = ss ∙ v.same_starts;
      same_keys = sk ∙ v.same_keys;
      answer = ap (λ (k : ℕ). walk_parts k (drop 8 b)) (sym v.fixed.is) ∙ parts_short n b 8 v.fixed.long h;
    }

    pub parts_step : (count to : ℕ) (offs' keys' : List ℕ) (a : Option ℕ) → p < n → count ≡ u32_at b o → RowsWalked b r count (o + 4) offs keys offs' keys' a
        → a ≡ Some to → length offs' ≡ length offs → length keys' ≡ length keys
        → PartsInv b n offs₀ starts₀ keys₀ offs' (set starts p r) keys' (p + 1) to (r + count)
    unfolding parts_end part_offs starts_of flat
    parts_step count to offs' keys' a h ec w at so sk =
        let e : n - p ≡ suc (n - (p + 1)) = sub_step n p h in
        let q = ended_at (length b) (rows_end count b (o + 4)) to (sym at ∙ w.answer) in
        let k : length (row_offs count b (o + 4)) ≡ count = length-row_offs count b (o + 4) in
        let km : length (map (name_from b) (row_offs count b (o + 4))) ≡ count = length-map (row_offs count b (o + 4)) (name_from b) ∙ k in
        record {
          fixed = v.fixed;
          scaled = omega (arith, v.scaled, q.0, rows_end_room count b (o + 4));
          inside = omega (arith, q);
          same_offs = so ∙ v.same_offs;
          same_starts = length-set starts p r ∙ v.same_starts;
          same_keys = sk ∙ v.same_keys;
          ends = rw (← q.0, ec) (rw e at v.ends);
          rows = rw (← q.0) (add_assoc r count _ ∙ rw (e, ← ec, length-append, k) at v.rows);
          fills = rw (w.offs_filled q.1, ← q.0) (rw (e, ← ec, sets_append, k) at v.fills);
          names = rw (w.keys_filled q.1, ← q.0) (rw (e, ← ec, map-append, sets_append, km) at v.names);
          marks = rw (← q.0, add-one p) (rw (e, ← ec, k, add-one p) at v.marks);
        }

    -- a part that ends past the image
    module _ (h : p < n) {offs' starts' keys' : List ℕ} (so : length offs' ≡ length offs) (ss : length starts' ≡ length starts) (sk : length keys' ≡ length keys) where
      past : (e : ℕ) → e ≤ part_end b o → length b < e → WalkDone b offs₀ starts₀ keys₀ offs' starts' keys' None
      unfolding parts_end
      past e le g =
          let l : length b < parts_end n b 8 = omega (arith, rw (sub_step n p h) at v.ends, parts_end_room (n - (p + 1)) b (part_end b o)) in
          bad so ss sk (λ q. omega arith)

      pub parts_cut : length b < o + 4 → WalkDone b offs₀ starts₀ keys₀ offs' starts' keys' None
      parts_cut g = past (o + 4) (omega (arith, rows_end_room (u32_at b o) b (o + 4))) g

      pub parts-over : (count : ℕ) → count ≡ u32_at b o → length b < rows_end count b (o + 4) → WalkDone b offs₀ starts₀ keys₀ offs' starts' keys' None
      parts-over count ec g = past (part_end b o) (omega arith) (rw ec at g)

    pub parts_unfilled : {starts' : List ℕ} → length starts' ≡ length starts → p ≡ n → (o ≡ length b → ⊥) → WalkDone b offs₀ starts₀ keys₀ offs starts' keys None
    unfolding parts_end
    parts_unfilled ss s q =
        let z : n - p ≡ 0 = omega arith in
        let a : o ≡ parts_end n b 8 = rw z at v.ends in
        bad refl ss refl (λ e. q (a ∙ e))

    pub parts_done : p ≡ n → o ≡ length b → WalkDone b offs₀ starts₀ keys₀ offs (set starts n r) keys (Some r)
    unfolding parts_end part_offs starts_of flat Answered
    parts_done s q =
        let z : n - p ≡ 0 = omega arith in
        let a : o ≡ parts_end n b 8 = rw z at v.ends in
        let f = v.fixed in
        let full : parts_end n b 8 ≡ length b = sym a ∙ q in
        let total : r + 0 ≡ length (flat (part_offs n b 8)) = rw z at v.rows in
        let eo : offs ≡ sets offs₀ 0 (flat (part_offs n b 8)) = rw z at v.fills in
        let ek : keys ≡ sets keys₀ 0 (map (name_from b) (flat (part_offs n b 8))) = rw z at v.names in
        let es : set starts n r ≡ sets starts₀ 0 (starts_of 0 (part_offs n b 8)) = rw (z, s) at v.marks in
        record {
          same_offs = v.same_offs;
          same_starts = length-set starts n r ∙ v.same_starts;
          same_keys = v.same_keys;
          answer = record {
            walk = walk_found b n f.is full;
            index = rw (eo, es, ← f.is) (indexed b n f.is full offs₀ starts₀ keys₀ f.small f.few f.offs_room f.starts_room f.keys_room);
            names = rw (es, ek) (named b n f.is full offs₀ starts₀ keys₀ f.small f.few f.offs_room f.starts_room f.keys_room);
            rows = omega (arith, total, total_is b n f.is full);
          };
        }
