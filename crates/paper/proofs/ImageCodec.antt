-- The codec of whole images, two theorems: what is decoded from bytes is encoded to those bytes, and what is encoded is decoded again.
-- Decoding is the refusals 1 to 6, the first half of the check. Assumes nothing.
use Prim.Native.Nat.{ℕ, zero, suc, ◌^◌, ◌<◌, ◌≤◌}
use native.Mathlib.Omega.{arith}
use mathlib.Core.Path.{◌≡◌, refl, sym, ap, ◌∙◌}
use mathlib.Core.List.{List, [], ◌∷◌, ◌++◌, map}
use mathlib.Core.Option.{some}
use lib.ListN.{length, get_or, take, drop, length-append}
use lib.Dec.{T, eqb, ltb, leb, le→leb, lt→ltb, eqb→eq, leb→le, ltb→lt}
use lib.Pow.{are_bytes}
use Rattle.laws.specs.Lists.{flat, same}
use Rattle.laws.proofs.Same.{same_eq}
use Rattle.laws.proofs.Tests.{split3, join3, eq-eqb}
use Rattle.field.specs.Bytes.{u8_at, u16_at, bytes_of}
use Rattle.field.proofs.Reading.{bytes_drop}
use Rattle.paper.specs.Outcome.{accepted, get}
use Rattle.paper.specs.Image.{Row, Set, no_row, walk_parts, row_bytes, bytes_of_part, image_of}
use Rattle.paper.specs.Sound.{max_image, marked, parts_counted, decode}
use Rattle.paper.proofs.Outcomes.{then_inv, must_inv, get_inv, then_ok, must_ok}
use Rattle.paper.proofs.RowBack.{RowFits}
use Rattle.paper.proofs.Codec.{parts_walk, parts_back, head_is}

-- ---- what an image that is decoded says, by name

pub record Decoded (b : List ℕ) (S : Set) : Type 0 where
  pub small : length b ≤ max_image
  pub long : 8 ≤ length b
  pub mark : T (marked b)
  pub version : u16_at b 3 ≡ 1
  pub some_part : 0 < u8_at b 5
  pub few_parts : u8_at b 5 ≤ 64
  pub zeros : u16_at b 6 ≡ 0
  pub walked : walk_parts (u8_at b 5) (drop 8 b) ≡ some S

pub decode_inv : (b : List ℕ) (S : Set) → decode b ≡ accepted S → Decoded b S
unfolding decode parts_counted
decode_inv b S e =
    let s1 = then_inv _ _ S e in
    let s2 = then_inv _ _ S s1.2 in
    let s3 = then_inv _ _ S s2.2 in
    let s4 = then_inv _ _ S s3.2 in
    let s5 = then_inv _ _ S s4.2 in
    let five = split3 (ltb 0 (u8_at b 5)) (leb (u8_at b 5) 64) (eqb (u16_at b 6) 0) (must_inv 5 (parts_counted b) s5.0 s5.1) in
    record {
      small = leb→le (length b) max_image (must_inv 1 (leb (length b) max_image) s1.0 s1.1);
      long = leb→le 8 (length b) (must_inv 2 (leb 8 (length b)) s2.0 s2.1);
      mark = must_inv 3 (marked b) s3.0 s3.1;
      version = eqb→eq (u16_at b 3) 1 (must_inv 4 (eqb (u16_at b 3) 1) s4.0 s4.1);
      some_part = ltb→lt 0 (u8_at b 5) five.0;
      few_parts = leb→le (u8_at b 5) 64 five.1;
      zeros = eqb→eq (u16_at b 6) 0 five.2;
      walked = get_inv 6 (walk_parts (u8_at b 5) (drop 8 b)) S s5.2;
    }

pub decode_ok : (b : List ℕ) (S : Set) → Decoded b S → decode b ≡ accepted S
unfolding decode parts_counted get
decode_ok b S d =
    then_ok _ _ tt (must_ok 1 _ (le→leb (length b) max_image d.small))
    ∙ then_ok _ _ tt (must_ok 2 _ (le→leb 8 (length b) d.long))
    ∙ then_ok _ _ tt (must_ok 3 _ d.mark)
    ∙ then_ok _ _ tt (must_ok 4 _ (eq-eqb (u16_at b 3) 1 d.version))
    ∙ then_ok _ _ tt (must_ok 5 _ (join3 (ltb 0 (u8_at b 5)) (leb (u8_at b 5) 64) (eqb (u16_at b 6) 0) (lt→ltb 0 (u8_at b 5) d.some_part, le→leb (u8_at b 5) 64 d.few_parts, eq-eqb (u16_at b 6) 0 d.zeros)))
    ∙ ap (get 6) d.walked

-- ---- bytes, set, bytes

pub decode_encode : (b : List ℕ) (S : Set) → T (are_bytes b) → decode b ≡ accepted S → image_of S ≡ b
unfolding image_of marked
decode_encode b S y e =
    let d = decode_inv b S e in
    let mark = same_eq (take 3 b) (68 ∷ 77 ∷ 80 ∷ []) d.mark in
    let w = parts_walk (u8_at b 5) (drop 8 b) S (bytes_drop 8 b y) d.walked in
    (λ i. 68 ∷ 77 ∷ 80 ∷ 1 ∷ 0 ∷ w.count i ∷ 0 ∷ 0 ∷ w.bytes i) ∙ sym (head_is b y d.long mark d.version d.zeros)

-- ---- set, bytes, set

-- a set whose rows have the widths of their fields, in 1 to 64 parts, and whose image is not over the limit
pub record SetFits (S : Set) : Type 0 where
  pub some_part : 0 < length S
  pub few_parts : length S ≤ 64
  pub rows : (p s : ℕ) → s < length (get_or S p []) → RowFits (get_or (get_or S p []) s no_row)
  pub small : length (image_of S) ≤ max_image

-- a row takes a byte or more, so an image of that size has few rows
row-bytes : (r : Row) (rest : List ℕ) → suc (length rest) ≤ length (row_bytes r ++ rest)
unfolding row_bytes bytes_of
row-bytes r rest = omega (arith, length-append (r.body ++ flat (map (bytes_of 4) r.slots)) rest)

rows-bytes : (rows : List Row) → length rows ≤ length (flat (map row_bytes rows))
unfolding flat
rows-bytes [] = omega arith
rows-bytes (r ∷ rows) = omega (arith, rows-bytes rows, row-bytes r (flat (map row_bytes rows)))

pub parts_bytes : (S : Set) (p : ℕ) → length (get_or S p []) ≤ length (flat (map bytes_of_part S))
unfolding flat bytes_of_part
parts_bytes [] p = omega arith
parts_bytes (rows ∷ S) zero =
    omega
    (arith, rows-bytes rows, length-append (bytes_of 4 (length rows)) (flat (map row_bytes rows)), length-append (bytes_of_part rows) (flat (map bytes_of_part S)))
parts_bytes (rows ∷ S) (suc p) = omega (arith, parts_bytes S p, length-append (bytes_of_part rows) (flat (map bytes_of_part S)))

pub encode_decode : (S : Set) → SetFits S → decode (image_of S) ≡ accepted S
unfolding image_of marked same
encode_decode S f =
    let few : (p : ℕ) → length (get_or S p []) < 2 ^ 32 = λ p. omega (arith, parts_bytes S p, f.small) in
    decode_ok (image_of S) S (record {
      small = f.small;
      long = omega arith;
      mark = tt;
      version = refl;
      some_part = f.some_part;
      few_parts = f.few_parts;
      zeros = refl;
      walked = parts_back S f.rows few;
    })
