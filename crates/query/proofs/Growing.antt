-- The loop that grows a box, on plain values: the box so far and the vertices of the rows that are left give that of all rows. Assumes nothing.
use Prim.Native.Nat.{ℕ, ◌+◌, ◌≤◌, ◌<◌}
use native.Mathlib.Numerals.{add-one}
use mathlib.Core.Path.{◌≡◌, refl, sym, ap, ◌∙◌, subst}
use mathlib.Core.Bool.{Bool, true, false, cond}
use mathlib.Core.List.{List, [], ◌∷◌, ◌++◌, map}
use mathlib.Core.Option.{Option, none, some}
use lib.ListN.{length, get_or, drop, drop_of_length-le}
use lib.Seq.{drop-cons}
use lib.Dec.{T, eqb}
use borrow.Author.Tests.{ne_eqb}
use Rattle.laws.specs.Lists.{keep}
use Rattle.paper.specs.declared.Point.{Point}
use Rattle.paper.specs.declared.Box.{Box}
use Rattle.paper.specs.Image.{Row, no_row}
use Rattle.paper.specs.Sound.{body_fitting}
use Rattle.paper.specs.Box.{point_of, grow, grow_all, box_around}
use Rattle.query.specs.Vertices.{vertices, further}

-- ---- points in turn

grow_all-append : (b : Box) (ps qs : List Point) → grow_all (grow_all b ps) qs ≡ grow_all b (ps ++ qs)
unfolding grow_all
grow_all-append b [] qs = refl
grow_all-append b (p ∷ ps) qs = grow_all-append (grow b p) ps qs

further-append : (o : Option Box) (ps qs : List Point) → further (further o ps) qs ≡ further o (ps ++ qs)
unfolding further box_around grow_all
further-append none [] qs = refl
further-append none (p ∷ ps) qs = ap some (grow_all-append _ ps qs)
further-append (some b) ps qs = ap some (grow_all-append b ps qs)

further_none : (o : Option Box) → further o [] ≡ o
unfolding further box_around grow_all
further_none none = refl
further_none (some b) = refl

-- ---- rows in turn

vertices_cons : (r : Row) (rows : List Row) → vertices (r ∷ []) ++ vertices rows ≡ vertices (r ∷ rows)
unfolding vertices keep
vertices_cons r rows = go (eqb r.dim 0)
  where
    go : (t : Bool) → map point_of (cond t (r ∷ []) []) ++ map point_of (keep (λ r. eqb r.dim 0) rows) ≡ map point_of (cond t (r ∷ keep (λ r. eqb r.dim 0) rows) (keep (λ r. eqb r.dim 0) rows))
    go true = refl
    go false = refl

vertex : (r : Row) → r.dim ≡ 0 → vertices (r ∷ []) ≡ point_of r ∷ []
unfolding vertices keep
vertex r e = rw e

pub body_of_vertex : (r : Row) → r.dim ≡ 0 → T (body_fitting r.dim r.body) → T (body_fitting 0 r.body)
body_of_vertex r e t = subst (λ (d : ℕ). T (body_fitting d r.body)) e t

pub by_vertex : (o : Option Box) (r : Row) → r.dim ≡ 0 → {p : Point} {o' : Option Box} → p ≡ point_of r → o' ≡ further o (p ∷ [])
    → o' ≡ further o (vertices (r ∷ []))
by_vertex o r e is grows = grows ∙ ap (λ (q : Point). further o (q ∷ [])) is ∙ ap (further o) (sym (vertex r e))

pub no_vertex : (o : Option Box) (r : Row) → (r.dim ≡ 0 → ⊥) → o ≡ further o (vertices (r ∷ []))
unfolding vertices keep
no_vertex o r h = sym (further_none o) ∙ rw (ne_eqb r.dim 0 h)

-- ---- the loop: o is the box so far, the rows from s on are left

abbrev pub Left : List Row → ℕ → Option Box → Type 0
Left rows s o = further o (vertices (drop s rows)) ≡ box_around (vertices rows)

pub start : (rows : List Row) → Left rows 0 none
unfolding further
start rows = refl

pub more : (rows : List Row) (s : ℕ) (o : Option Box) {o' : Option Box} → s < length rows → Left rows s o → {r : Row} → get_or rows s no_row ≡ r
    → o' ≡ further o (vertices (r ∷ [])) → Left rows (s + 1) o'
more rows s o h left same e =
    ap (λ (x : Option Box). further x (vertices (drop (s + 1) rows))) (e ∙ ap (λ (r : Row). further o (vertices (r ∷ []))) (sym same))
    ∙ further-append o (vertices (get_or rows s no_row ∷ [])) (vertices (drop (s + 1) rows))
    ∙ ap (further o) (vertices_cons (get_or rows s no_row) (drop (s + 1) rows))
    ∙ rw (add-one s) (rw (drop-cons rows s no_row h) at left)

pub done : (rows : List Row) (s : ℕ) {o : Option Box} → length rows ≤ s → Left rows s o → o ≡ box_around (vertices rows)
unfolding vertices keep
done rows s {o} h left = sym (further_none o) ∙ rw (drop_of_length-le rows {i = s} h) at left
