-- The coordinates of a vertex, read from the image. Assumes nothing.
use Prim.Native.Nat.{ℕ, ◌+◌, ◌*◌, ◌<◌}
use native.Mathlib.Omega.{arith}
use mathlib.Core.Path.{◌≡◌, sym, ap, ◌∙◌, subst}
use mathlib.Core.Bool.{true}
use mathlib.Core.List.{List}
use lib.Dec.{T}
use lib.Ieee.{Float, binary64, of_bits}
use Rattle.laws.proofs.Tests.{T_true, split3}
use Rattle.field.specs.Bytes.{u64_at, finite}
use Rattle.paper.specs.declared.Point.{Point}
use Rattle.paper.specs.Sound.{body_fitting}
use Rattle.paper.specs.Box.{point_of}
use Rattle.index.specs.Index.{row_from}
use Rattle.index.proofs.RowFields.{get_or_longs, row_long}
use Rattle.fields.proofs.Laws.{point_tests}

module _ (b : List ℕ) (o : ℕ) where
  -- coordinate i stands at 24 + 8 i of the row
  coordinate : (i k : ℕ) → i < 3 → o + 24 + 8 * i ≡ k → u64_at b k ≡ u64_at (row_from b o).body (8 * i)
  coordinate i k h e = sym (ap (u64_at b) e) ∙ sym (row_long b o 3 i h (omega arith)) ∙ get_or_longs 3 (row_from b o).body i h

  pub record Finite : Type 0 where
    pub x : finite (u64_at b (o + 24)) ≡ true
    pub y : finite (u64_at b (o + 32)) ≡ true
    pub z : finite (u64_at b (o + 40)) ≡ true

  pub finites : T (body_fitting 0 (row_from b o).body) → Finite
  finites t =
      let s = split3 (finite (u64_at b (o + 24))) (finite (u64_at b (o + 32))) (finite (u64_at b (o + 40))) (subst T (sym (point_tests b o)) t) in
      record { x = T_true _ s.0; y = T_true _ s.1; z = T_true _ s.2 }

  pub point_is : {x y z : ℕ} → x ≡ u64_at b (o + 24) → y ≡ u64_at b (o + 32) → z ≡ u64_at b (o + 40) → {fx fy fz : Float}
      → fx ≡ of_bits binary64 x → fy ≡ of_bits binary64 y → fz ≡ of_bits binary64 z → ◌≡◌ {A = Point} (record { x = fx; y = fy; z = fz }) (point_of (row_from b o))
  unfolding point_of
  point_is ex ey ez fx fy fz =
      λ i.
      record {
        x = (fx ∙ ap (of_bits binary64) (ex ∙ coordinate 0 (o + 24) (omega arith) (omega arith))) i;
        y = (fy ∙ ap (of_bits binary64) (ey ∙ coordinate 1 (o + 32) (omega arith) (omega arith))) i;
        z = (fz ∙ ap (of_bits binary64) (ez ∙ coordinate 2 (o + 40) (omega arith) (omega arith))) i;
      }
