-- What an accepted image says of its rows, and the paper's lookup and box of it. Assumes nothing.
use Prim.Native.Nat.{ℕ, ◌+◌, ◌^◌, ◌≤◌, ◌<◌}
use mathlib.Core.Path.{◌≡◌, sym, ap, ◌∙◌, subst}
use mathlib.Core.List.{List, []}
use lib.ListN.{length, get_or}
use lib.Dec.{T, ltb, leb, eqb}
use borrow.Author.Tests.{lt-ltb, le-ltb}
use Rattle.std.specs.Prelude.{Option, None, Some, Ok}
use Rattle.laws.specs.Lists.{flat, first_or, some?}
use Rattle.laws.proofs.Tests.{split8}
use Rattle.paper.specs.declared.Box.{Box}
use Rattle.paper.specs.Outcome.{Outcome, Place, refused, accepted, nowhere, must, ◌>>◌, ◌>>=◌}
use Rattle.paper.specs.Image.{Row, Set, no_row, row_at}
use Rattle.part_set.specs.Masks.{has}
use Rattle.paper.specs.Mesh.{name_of}
use Rattle.paper.specs.Sound.{value_fitting, body_fitting, fields_fit, name_of_row, ordered, sound_of}
use Rattle.paper.specs.Lookup.{Found, is_named, home_of, lookup_of}
use Rattle.paper.specs.Box.{box_around, box_asked}
use Rattle.paper.proofs.Outcomes.{bind_ok}
use Rattle.index.specs.Index.{row_from, set_in, Indexed}
use Rattle.paper.specs.declared.Rule.TheVariants.{Fields, Order}
use Rattle.paper.specs.Sound.{judged}
use Rattle.demands.specs.Passed.{AllPassed}
use Rattle.paper.specs.Answers.{box_answer}
use Rattle.query.specs.Vertices.{box_within, vertices}

-- ---- what its rows keep

pub in_order : (S : Set) → AllPassed S → (p s : ℕ) → s < length (get_or S p []) → T (ordered (get_or S p []) s)
unfolding judged
in_order S passed = passed Order

fields_kept : (S : Set) → AllPassed S → (p s : ℕ) → s < length (get_or S p []) → T (fields_fit (length S) p (row_at S p s))
unfolding judged
fields_kept S passed = passed Fields

body_kept : (n p : ℕ) (r : Row) → T (fields_fit n p r) → T (body_fitting r.dim r.body)
unfolding fields_fit
body_kept n p r t =
    (split8 (leb r.dim 3) (ltb r.owner n) (leb r.kind 2) (eqb r.pad 0) (ltb r.mask (2 ^ n)) (has r.mask p) (value_fitting r.kind r.value)
    (body_fitting r.dim r.body) t).7

-- ---- the row at an offset

module _ {b offs starts : List ℕ} {n : ℕ} (ix : Indexed b offs starts n) (p s : ℕ) (h : s < length (get_or (set_in b) p [])) {at : ℕ} (place : at ≡ get_or offs (get_or starts p 0 + s) 0) where
  pub row_at_lem : get_or (get_or (set_in b) p []) s no_row ≡ row_from b at
  unfolding row_at
  row_at_lem = ix.row p s h ∙ ap (row_from b) (sym place)

  pub body_at : AllPassed (set_in b) → T (body_fitting (row_from b at).dim (row_from b at).body)
  unfolding row_at
  body_at passed =
      subst (λ (r : Row). T (body_fitting r.dim r.body)) row_at_lem (body_kept (length (set_in b)) p (get_or (get_or (set_in b) p []) s no_row) (fields_kept (set_in b) passed p s h))

-- ---- lookup and box of an accepted image

-- the lookup of a name among rows
unfoldable pub found_in : ℕ → List Row → Outcome Found
found_in x rows = must 21 (some? (λ r. eqb x (name_of_row r)) rows) >> accepted (home_of (first_or no_row (λ r. eqb x (name_of_row r)) rows))

module _ (b : List ℕ) (S : Set) (sound : sound_of b ≡ accepted S) where
  pub lookup_is : (d k : ℕ) {x : ℕ} → x ≡ name_of d k → lookup_of b d k ≡ found_in x (flat S)
  unfolding lookup_of is_named found_in
  lookup_is d k e = bind_ok (sound_of b) _ S sound ∙ ap (λ (x : ℕ). found_in x (flat S)) (sym e)

  box_is : (p : ℕ) → box_asked b p ≡ (must 20 (ltb p (length S)) >> accepted (box_around (vertices (get_or S p []))))
  unfolding box_asked vertices
  box_is p = bind_ok (sound_of b) _ S sound

  pub no_part : (p : ℕ) → length S ≤ p → box_asked b p ≡ refused 20 nowhere
  unfolding must ◌>>◌
  no_part p h = box_is p ∙ rw (le-ltb p (length S) h)

  part-box : (p : ℕ) → p < length S → box_asked b p ≡ accepted (box_around (vertices (get_or S p [])))
  unfolding must ◌>>◌
  part-box p h = box_is p ∙ rw (lt-ltb p (length S) h)

  pub part-answer : (p : ℕ) → p < length S → (o : Option Box) → box_within o ≡ box_around (vertices (get_or S p [])) → box_answer (Ok o) ≡ box_asked b p
  part-answer p h None e = ap accepted e ∙ sym (part-box p h)
  part-answer p h (Some b) e = ap accepted e ∙ sym (part-box p h)

-- ---- a refused one

module _ (b : List ℕ) (k : ℕ) (place : Place) (stops : sound_of b ≡ refused k place) where
  pub lookup_refused : (d number : ℕ) → refused k place ≡ lookup_of b d number
  unfolding lookup_of ◌>>=◌
  lookup_refused d number = rw stops

  pub box_refused : (p : ℕ) → refused k place ≡ box_asked b p
  unfolding box_asked ◌>>=◌
  box_refused p = rw stops
