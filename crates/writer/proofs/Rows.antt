-- A row, written front, body and remote slots, and copied.
-- Assumes nothing.
use Prim.Native.Nat.{ℕ, zero, suc, ◌+◌, ◌-◌, ◌*◌, ◌≤◌, ◌<◌}
use native.Mathlib.Omega.{arith}
use mathlib.Core.Path.{◌≡◌, refl, sym, ap, ◌∙◌, subst}
use mathlib.Core.List.{List, [], ◌∷◌, ◌++◌, map}
use lib.ListN.{length, get_or, take, drop, replicate, length-append, length-replicate, length-map}
use lib.Seq.{sets}
use lib.Dec.{T}
use Rattle.laws.specs.Lists.{flat}
use Rattle.field.specs.Bytes.{u8_at, u32_at, u64_at, bytes_of}
use Rattle.field.proofs.Numbers.{length-bytes, length-written}
use Rattle.laws.proofs.Stores.{sets_then}
use Rattle.field.proofs.Stores.{sets_inside, length_run}
use Rattle.part_set.specs.Masks.{count, parts_in, others}
use Rattle.part_set.proofs.Rank.{rank_lt}
use Rattle.part_set.proofs.MaskParts.{others-count}
use Rattle.paper.specs.Image.{row_bytes}
use Rattle.residence.specs.Owners.{poorest_of}
use Rattle.writer.specs.Entries.{entry_from, entry_of, remote_slots, body_from}
use Rattle.writer.specs.Rows.{source_at, faces_at, new_row, RowReady}
use Rattle.writer.specs.Written.{front_bytes, body_at}
use Rattle.writer.proofs.Faces.{each_word, each_length}
use Rattle.writer.proofs.Gathered.{faces-length}

-- ---- the body

module _ (coords : List ℕ) (f : ℕ → ℕ) (fs : List ℕ) where
  pub body_vertex : (d : ℕ) → d ≡ 0 → body_from coords f fs d ≡ coords
  unfolding body_from
  body_vertex zero e = refl
  body_vertex (suc d) e = absurd (omega arith)

  pub body_faces : (d : ℕ) → 0 < d → body_from coords f fs d ≡ each_word f fs ++ replicate (24 - 4 * (d + 1)) 0
  unfolding body_from
  body_faces zero e = absurd (omega arith)
  body_faces (suc d) e =
      let k : 24 - 4 * (d + 2) ≡ 24 - 4 * (suc d + 1) = omega arith in
      ap (λ (n : ℕ). each_word f fs ++ replicate n 0) k

  pub body_length : (d : ℕ) → d ≤ 3 → length coords ≡ 24 → length fs ≡ d + 1 → length (body_from coords f fs d) ≡ 24
  unfolding body_from
  body_length zero h a b = a
  body_length (suc d) h a b =
      omega (arith, length-append (each_word f fs) (replicate (24 - 4 * (d + 2)) 0), each_length f fs, length-replicate {A = ℕ} (24 - 4 * (d + 2)) 0, h, b)

-- a vertex's body has no faces
body_same : (coords : List ℕ) (f : ℕ → ℕ) (xs ys : List ℕ) (d : ℕ) → (0 < d → xs ≡ ys) → body_from coords f xs d ≡ body_from coords f ys d
unfolding body_from
body_same coords f xs ys zero e = refl
body_same coords f xs ys (suc d) e = ap (λ (l : List ℕ). body_from coords f l (suc d)) (e (omega arith))

-- by the source row's dimension, from its faces
pub body_gathered : (image : List ℕ) (at : ℕ) (starts ent masks base slots : List ℕ) (q d : ℕ) (faces : List ℕ) → d ≡ u8_at image (at + 4)
    → (0 < d → faces ≡ faces_at image starts ent at d)
    → body_from (take 24 (drop (at + 24) image)) (entry_of masks base slots q) faces d ≡ body_at image at starts ent masks base slots q
unfolding body_at
body_gathered image at starts ent masks base slots q d faces e f =
    let coords = take 24 (drop (at + 24) image) in
    body_same coords (entry_of masks base slots q) faces (faces_at image starts ent at d) d f
    ∙ ap (λ (z : ℕ). body_from coords (entry_of masks base slots q) (faces_at image starts ent at z) z) e

-- ---- the front

module _ (number dim owner kind mask value : ℕ) where
  pub front_length : length (front_bytes number dim owner kind mask value) ≡ 24
  unfolding front_bytes bytes_of
  front_length = refl

  pub front-written : (l m1 m2 m3 m4 : List ℕ) → m1 ≡ sets l 0 (bytes_of 4 number) → m2 ≡ sets m1 4 (dim ∷ owner ∷ kind ∷ 0 ∷ []) → m3 ≡ sets m2 8 (bytes_of 8 mask)
      → m4 ≡ sets m3 16 (bytes_of 8 value) → m4 ≡ sets l 0 (front_bytes number dim owner kind mask value)
  unfolding front_bytes
  front-written l m1 m2 m3 m4 p1 p2 p3 p4 =
      let A = bytes_of 4 number in
      let B = dim ∷ owner ∷ kind ∷ 0 ∷ [] in
      let C = bytes_of 8 mask in
      let D = bytes_of 8 value in
      let a = length-bytes 4 number in
      let b = length-append A B in
      let e1 = sets_then l m1 m2 0 4 A B p1 p2 (omega arith) in
      let e2 = sets_then l m2 m3 0 8 (A ++ B) C e1 p3 (omega arith) in
      sets_then l m3 m4 0 16 (A ++ B ++ C) D e2 p4 (omega (arith, length-append (A ++ B) C, length-bytes 8 mask))

-- ---- the whole row

module _ {image offs starts ord ent counts masks base slots : List ℕ} {q i : ℕ} (s : RowReady image offs starts ord ent counts masks base slots q i) where
  abbrev from : ℕ
  from = source_at offs ord i

  abbrev low : ℕ
  low = u8_at image (from + 4)

  abbrev set : ℕ
  set = get_or masks i 0

  abbrev body_bytes : List ℕ
  body_bytes = body_at image from starts ent masks base slots q

  abbrev ahead : ℕ → List ℕ
  ahead owner = front_bytes (u32_at image from) low owner (u8_at image (from + 6)) set (u64_at image (from + 16))

  abbrev owned : ℕ
  owned = poorest_of counts (parts_in set)

  abbrev remote : List ℕ
  remote = flat (map (bytes_of 4) (remote_slots slots (get_or base i 0) set q))

  abbrev bytes : List ℕ
  bytes = row_bytes (new_row image offs starts ord ent counts masks base slots q i)

  row_is : bytes ≡ ahead owned ++ body_bytes ++ remote
  unfolding row_bytes new_row front_bytes body_at
  row_is = refl

  body_size : length body_bytes ≡ 24
  unfolding body_at
  body_size =
      body_length (take 24 (drop (from + 24) image)) (entry_of masks base slots q) (faces_at image starts ent from low) low s.low
      (length_run image (from + 24) 24 (omega (arith, s.source))) (faces-length image from starts ent low)

  remote_size : length remote ≡ 4 * (count set - 1)
  unfolding remote_slots
  remote_size =
      omega (
        arith,
        length-written (map (entry_from slots (get_or base i 0) set) (others set q)),
        length-map (others set q) (entry_from slots (get_or base i 0) set),
        others-count set q s.part (subst T (sym s.own) tt),
      )

  front_size : length (ahead owned) ≡ 24
  front_size = front_length (u32_at image from) low owned (u8_at image (from + 6)) set (u64_at image (from + 16))

  pub row-length : length bytes ≡ 44 + 4 * count set
  row-length =
      ap length row_is
      ∙ omega (
        arith,
        length-append (ahead owned ++ body_bytes) remote,
        length-append (ahead owned) body_bytes,
        front_size,
        body_size,
        remote_size,
        rank_lt set q s.part (subst T (sym s.own) tt),
      )

  pub row_written : (l m1 m2 m3 : List ℕ) (owner : ℕ) → owner ≡ owned → m1 ≡ sets l 0 (ahead owner) → m2 ≡ sets m1 24 body_bytes → m3 ≡ sets m2 48 remote
      → m3 ≡ sets l 0 bytes
  row_written l m1 m2 m3 owner e p1 p2 p3 =
      let p = p1 ∙ ap (λ (z : ℕ). sets l 0 (ahead z)) e in
      let e1 = sets_then l m1 m2 0 24 (ahead owned) body_bytes p p2 (omega (arith, front_size)) in
      sets_then l m2 m3 0 48 (ahead owned ++ body_bytes) remote e1 p3 (omega (arith, front_size, body_size, length-append (ahead owned) body_bytes))
      ∙ ap (sets l 0) (sym row_is)

-- ---- copied

pub row_copied : (row row' bytes l out : List ℕ) (at n : ℕ) → row' ≡ sets row 0 bytes → out ≡ sets l at (take n (drop 0 row')) → length bytes ≡ n → n ≤ 300
    → length row ≡ 300 → out ≡ sets l at bytes
row_copied row row' bytes l out at n e f k h r =
    f
    ∙ ap (sets l at)
    (ap (λ (z : ℕ). take z (drop 0 row')) (sym k) ∙ ap (λ (b : List ℕ). take (length bytes) (drop 0 b)) e ∙ sets_inside row 0 bytes (omega arith))
