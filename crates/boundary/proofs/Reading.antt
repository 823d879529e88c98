-- The slots that a row of an indexed image names, as the words of its body. Assumes nothing.
use Prim.Native.Nat.{ℕ, suc, ◌+◌, ◌-◌, ◌*◌, ◌≤◌, ◌<◌}
use native.Mathlib.Omega.{arith}
use mathlib.Core.Path.{◌≡◌, sym, ap, ◌∙◌}
use mathlib.Core.List.{List, []}
use lib.ListN.{length, get_or}
use Rattle.std.proofs.lemmas.List.{ext_get_or}
use Rattle.field.proofs.Reading.{length-words}
use Rattle.field.specs.Bytes.{u32_at, words}
use Rattle.paper.specs.Image.{Row, row_at}
use Rattle.paper.specs.Mesh.{slots_of}
use Rattle.index.specs.Index.{row_from, set_in}
use Rattle.index.proofs.RowFields.{row_word}
use Rattle.boundary.specs.Boundary.{faces_at, RowThere}
use Rattle.rows.proofs.Laws.{part_there, row_there, offset_there}

word_is : (b : List ℕ) (o k i : ℕ) → i < k → k ≤ 6 → {at x : ℕ} → at ≡ o → x ≡ u32_at b (at + 24 + 4 * i) → get_or (words k (row_from b o).body) i 0 ≡ x
word_is b o k i h few {at} e read =
    let g : o + 24 + 4 * i ≡ at + 24 + 4 * i = omega (arith, e) in
    row_word b o k i h few ∙ ap (u32_at b) g ∙ sym read

module _ {b offs starts : List ℕ} {p s : ℕ} (r : RowThere b offs starts p s) where
  pub part_in : p < length starts
  part_in = omega (arith, part_there r.index p s r.here, r.index.few, r.index.starts_room)

  pub row_in : get_or starts p 0 + s < length offs
  row_in = omega (arith, row_there r.index p s r.here, r.index.offs_room)

  pub row_inside : (get_or offs (get_or starts p 0 + s) 0 + 48 ≤ length b) × (length b ≤ 1048576)
  row_inside = (offset_there r.index p s r.here, r.index.small)

  body_is : (d : ℕ) → faces_at (get_or (set_in b) p []) d s ≡ slots_of d (row_from b (get_or offs (get_or starts p 0 + s) 0)).body
  unfolding row_at
  body_is d = ap (λ (row : Row). slots_of d row.body) (r.index.row p s r.here)

  module _ {at : ℕ} (e : at ≡ get_or offs (get_or starts p 0 + s) 0) where
    o : ℕ
    o = get_or offs (get_or starts p 0 + s) 0

    -- the words of the body at a slot are those that are read
    pub slots_read : {n : ℕ} → 2 ≤ n → n ≤ 4 → (ys : List ℕ) → length ys ≡ n → ((i : ℕ) → i < n → get_or ys i 0 ≡ u32_at b (at + 24 + 4 * i)) → faces_at (get_or (set_in b) p []) (n - 1) s ≡ ys
    unfolding slots_of o
    slots_read {n} low high ys l h =
        let m = n - 2 in
        let d : n ≡ suc (suc m) = omega arith in
        let f : n - 1 ≡ suc m = omega arith in
        let long = length-words n (row_from b o).body in
        body_is (n - 1)
        ∙ rw (f, ← d)
        (ext_get_or 0 (words n (row_from b o).body) ys (long ∙ sym l) (λ i g. let k : i < n = omega (arith, g, long) in word_is b o n i k (omega arith) e (h i k)))
