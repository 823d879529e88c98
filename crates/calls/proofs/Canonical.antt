-- T1, T2 and T3 of what `check` answers: an image that it accepts is the canonical image of its mesh and placement, and a mesh and a placement
-- that fit have an image that it accepts and that holds them, where it is not too long. Assumes nothing.
use Prim.Native.Nat.{ℕ, ◌≤◌}
use mathlib.Core.Path.{◌≡◌, ap, ◌∙◌, subst}
use mathlib.Core.List.{List}
use lib.ListN.{length}
use lib.Dec.{T}
use lib.Pow.{are_bytes}
use Rattle.paper.specs.Image.{Set, image_of, row_total}
use Rattle.paper.specs.Mesh.{Entity, Parts, mesh_of}
use Rattle.paper.specs.Sound.{max_image}
use Rattle.paper.specs.Placement.{Placement, spread, rows_for, place_in, places_of, image_for, WellPlaced}
use Rattle.paper.specs.Promises.{Checks}
use Rattle.demands.proofs.Theorems.Statements.{mesh, places}
use Rattle.demands.proofs.Theorems.T1.{theorem_1}
use Rattle.demands.proofs.Theorems.T2.{theorem_2}
use Rattle.demands.proofs.Theorems.T3.{theorem_3}
use Rattle.calls.specs.Calls.{set_held, mesh_held, places_held}
use Rattle.calls.proofs.Answered.{set_is, sound_answer, answer_sound}
use Rattle.paper.specs.Given.{sound_answer_of}

pub sound_is_canonical : (b : List ℕ) (parts rows : ℕ) → T (are_bytes b) → Checks b (sound_answer_of parts rows)
    → (b ≡ image_for parts (mesh_held b) (places_held b)) × WellPlaced parts (mesh_held b) (places_held b)
unfolding image_for
sound_is_canonical b parts rows y k =
    let s = sound_answer b parts rows k in
    let t = theorem_1 b (set_held b) y s.accepts in
    subst (λ (n : ℕ). (b ≡ image_for n (mesh_held b) (places_held b)) × WellPlaced n (mesh_held b) (places_held b)) s.count
    (t.bytes ∙ ap (λ (ps : Parts). image_of (rows_for ps)) t.parts, t.fits)

module _ (n : ℕ) (es : List Entity) (place : Placement) (fits : WellPlaced n es place) (small : length (image_for n es place) ≤ max_image) where
  pub canonical_is_sound : Checks (image_for n es place) (sound_answer_of n (row_total (rows_for (spread n es place))))
  canonical_is_sound =
      subst (λ (p : ℕ). Checks (image_for n es place) (sound_answer_of p (row_total (rows_for (spread n es place))))) (theorem_3 n es place fits small).count
      (answer_sound (image_for n es place) (rows_for (spread n es place)) (theorem_2 n es place fits small))

  pub canonical_holds : (mesh_held (image_for n es place) ≡ es) × (places_of es (places_held (image_for n es place)) ≡ places_of es place)
  canonical_holds =
      let t = theorem_3 n es place fits small in
      let is : set_held (image_for n es place) ≡ rows_for (spread n es place) = set_is (image_for n es place) (rows_for (spread n es place)) (theorem_2 n es place fits small) in (
        ap mesh is ∙ ap mesh_of t.parts ∙ t.mesh,
        ap (λ (S : Set). places_of es (places S)) is ∙ ap (λ (ps : Parts). places_of es (place_in ps)) t.parts ∙ t.places,
      )
