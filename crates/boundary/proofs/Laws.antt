-- What the functions of the boundary read, and what of it their callers know. Assumes nothing.
use Prim.Native.Nat.{ℕ, ◌+◌, ◌^◌, ◌<◌}
use native.Mathlib.Omega.{arith}
use mathlib.Core.Path.{◌≡◌, refl, sym, ap, ◌∙◌, subst}
use mathlib.Core.List.{List, [], map}
use lib.ListN.{length, get_or}
use lib.Dec.{T}
use Rattle.laws.specs.Lists.{In, unions}
use Rattle.field.specs.Bytes.{u8_at}
use Rattle.paper.specs.Image.{Row, no_row, row_at}
use Rattle.index.specs.Index.{set_in}
use Rattle.index.proofs.RowFields.{row_number, row_dim}
use Rattle.boundary.specs.Boundary.{faces_fit, CornersOf, faces_at, corners_below, PartKeyed, RowThere, TriangleThere, RowAhead, RowOf}
use Rattle.rows.proofs.Laws.{part_there, part_room}
use Rattle.boundary.proofs.Simplex.{unions_are}

-- ---- faces by their slots

pub edge_there : {b offs starts : List ℕ} {p t : ℕ} → TriangleThere b offs starts p t → {fs : List ℕ} → faces_at (get_or (set_in b) p []) 2 t ≡ fs → (e : ℕ) → In e fs → RowThere b offs starts p e
edge_there there at e i = there.edges e (subst (λ (l : List ℕ). In e l) (sym at) i)

-- the vertices of a triangle that fits
pub corners_read : {b offs starts : List ℕ} {part t : ℕ} → TriangleThere b offs starts part t → (fs : List (List ℕ)) (es vs : List ℕ) → (let rows = get_or (set_in b) part [] in
    faces_at rows 2 t ≡ es → map (faces_at rows 1) es ≡ fs → length fs ≡ 3 → length vs ≡ 3 → CornersOf fs 3 2 vs → corners_below rows t ≡ vs)
unfolding corners_below
corners_read {b} {part} {t} there fs es vs at edges n l is =
    let rows = get_or (set_in b) part [] in
    let faces : map (faces_at rows 1) (faces_at rows 2 t) ≡ fs = ap (map (faces_at rows 1)) at ∙ edges in
    ap unions faces ∙ unions_are fs 3 2 refl (omega arith) n vs l is (subst (λ (l : List (List ℕ)). T (faces_fit 3 l)) faces there.fit)

-- ---- a row whose predecessors pass

module _ {b offs starts keys : List ℕ} {p s : ℕ} (a : RowAhead b offs starts keys p s) where
  pub ahead_there : RowThere b offs starts p s
  ahead_there = record { index = a.index; here = a.here }

  pub part_keyed : PartKeyed starts keys p
  part_keyed =
      let h = part_there a.index p s a.here in
      let next = a.index.next p h in
      record {
        there = omega (arith, h, a.index.few, a.index.starts_room);
        from = omega (arith, next);
        upto = omega (arith, next, part_room a.index p h, a.index.total_few, a.named.room);
      }

  -- entity numbers have 32 bits, since they are read from bytes
  numbers_small : ((i : ℕ) → get_or b i 0 < 256) → (t : ℕ) → t < length (get_or (set_in b) p []) → (get_or (get_or (set_in b) p []) t no_row).number < 2 ^ 32
  unfolding row_at
  numbers_small bytes t h =
      let o = get_or offs (get_or starts p 0 + t) 0 in
      omega (arith, ap (λ (row : Row). row.number) (a.index.row p t h), row_number b o, bytes o, bytes (o + 1), bytes (o + 2), bytes (o + 2 + 1))

  -- the dimension that is read is that of the row
  pub dim_read : {at d : ℕ} → at ≡ get_or offs (get_or starts p 0 + s) 0 → d ≡ u8_at b (at + 4) → (get_or (get_or (set_in b) p []) s no_row).dim ≡ d
  unfolding row_at
  dim_read {at} e read =
      let o = get_or offs (get_or starts p 0 + s) 0 in
      ap (λ (row : Row). row.dim) (a.index.row p s a.here) ∙ row_dim b o ∙ ap (λ (i : ℕ). u8_at b (i + 4)) (sym e) ∙ sym read

  pub row_of_dim : ((i : ℕ) → get_or b i 0 < 256) → {d : ℕ} → (get_or (get_or (set_in b) p []) s no_row).dim ≡ d → RowOf d b offs starts keys p s
  row_of_dim bytes e = record { ahead = a; small = numbers_small bytes; dim = e }
