-- One row, marked where it is an object. Assumes nothing.
use Prim.Native.Nat.{ℕ, ◌+◌, ◌<◌}
use native.Mathlib.Omega.{arith}
use mathlib.Core.Path.{◌≡◌, refl, sym, ap, ap₂, ◌∙◌}
use mathlib.Core.Bool.{Bool, true, ◌&&◌}
use mathlib.Core.List.{List, []}
use lib.ListN.{length, get_or}
use lib.Dec.{eqb}
use Rattle.laws.proofs.Tests.{T_true, split2, join2, eq-eqb, ne_eqb}
use Rattle.field.specs.Bytes.{u8_at}
use Rattle.paper.specs.Image.{row_at}
use Rattle.index.specs.Index.{set_in}
use Rattle.marks.specs.Closures.{closure_marks, object_marks, Marked, Closed, RowKnown, Markable, Placed}
use Rattle.marks.proofs.Words.{mark_none, mark_same}
use Rattle.marks.proofs.Rows.{known_room, dim_read}
use Rattle.marks.proofs.Closing.{closed_more, closure_hits}

module _ {b offs starts covered dest w : List ℕ} (pl : Placed b offs starts covered dest w) (p s : ℕ) (here : s < length (get_or (set_in b) p [])) where
  pub object_known : RowKnown b offs starts p s
  object_known = record { readable = pl.readable; here = here }

  module _ (row : ℕ) (er : row ≡ get_or starts p 0 + s) where
    pub covered_there : row < length covered
    covered_there = omega (arith, er, known_room object_known pl.room_covered)

    pub dest_there : row < length dest
    dest_there = omega (arith, er, known_room object_known pl.room_dest)

    -- a covered row marks nothing
    pub object_covered : (get_or covered row 0 ≡ 0 → ⊥) → Marked b starts p (object_marks b starts covered dest p s) w w
    unfolding object_marks
    object_covered h =
        let first = get_or starts p 0 in
        let e : eqb (get_or covered (first + s) 0) 0 ≡ _ = ne_eqb (get_or covered (first + s) 0) 0 (λ z. h (ap (λ (g : ℕ). get_or covered g 0) er ∙ z)) in
        mark_same
        (λ t r. ap (λ (x : Bool). x && closure_marks b p (row_at (set_in b) p s).dim s (get_or dest (first + s) 0) t r) (sym e))
        (mark_none w)

    module _ (zero : get_or covered row 0 ≡ 0) (at dim q : ℕ) (ea : at ≡ get_or offs (get_or starts p 0 + s) 0) (ed : dim ≡ u8_at b (at + 4)) (eq : q ≡ get_or dest row 0) where
      is_open : get_or covered (get_or starts p 0 + s) 0 ≡ 0
      is_open = ap (λ (g : ℕ). get_or covered g 0) (sym er) ∙ zero

      is_dim : (row_at (set_in b) p s).dim ≡ dim
      is_dim = dim_read object_known ea ∙ sym ed

      is_dest : q ≡ get_or dest (get_or starts p 0 + s) 0
      is_dest = eq ∙ ap (λ (g : ℕ). get_or dest g 0) er

      -- what `mark` wants
      pub object-markable : Closed b starts p w → Markable b offs starts p s dim q w
      object-markable closed = record {
        known = object_known;
        dim = is_dim;
        part = omega (arith, is_dest, pl.parts p s here is_open, pl.readable.index.few);
        room = pl.room;
        closed = closed;
      }

      pub object-marked : (w' : List ℕ) → Marked b starts p (closure_marks b p dim s q) w w' → Marked b starts p (object_marks b starts covered dest p s) w w'
      unfolding object_marks
      object-marked w' m =
          let first = get_or starts p 0 in
          let e : eqb (get_or covered (first + s) 0) 0 ≡ true = T_true (eqb (get_or covered (first + s) 0) 0) (eq-eqb (get_or covered (first + s) 0) 0 is_open) in
          mark_same
          (λ t r. ap₂ (λ (d x : ℕ). closure_marks b p d s x t r) (sym is_dim) is_dest
          ∙ ap (λ (x : Bool). x && closure_marks b p (row_at (set_in b) p s).dim s (get_or dest (first + s) 0) t r) (sym e))
          m

-- the bits of an object come with those of the closure
pub object_closed : {b offs starts covered dest w : List ℕ} (pl : Placed b offs starts covered dest w) (p s : ℕ) → s < length (get_or (set_in b) p []) → {w₁ w₂ : List ℕ}
    → Closed b starts p w₁ → Marked b starts p (object_marks b starts covered dest p s) w₁ w₂ → Closed b starts p w₂
unfolding object_marks
object_closed {b} {offs} {starts} {covered} {dest} pl p s here c m =
    let first = get_or starts p 0 in
    let d = (row_at (set_in b) p s).dim in
    let q = get_or dest (first + s) 0 in
    let bare = eqb (get_or covered (first + s) 0) 0 in
    closed_more pl.readable p c
    (λ t u r l a i.
    let v = split2 bare (closure_marks b p d s q t r) a in
    join2 bare (closure_marks b p d s q u r) (v.0, closure_hits pl.readable p d s q here refl t u r l v.1 i))
    m
