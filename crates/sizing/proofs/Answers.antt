-- What sizing answers, from what its steps find. Assumes nothing.
use Prim.Native.Nat.{ℕ, ◌≤◌, ◌<◌}
use native.Mathlib.Omega.{arith}
use mathlib.Core.Path.{◌≡◌, ap, ◌∙◌}
use mathlib.Core.Bool.{not}
use mathlib.Core.List.{List}
use lib.ListN.{length}
use lib.Dec.{T, leb, le→leb, leb→le, not_T}
use Rattle.paper.specs.declared.Refusal.{Refusal}
use Rattle.paper.specs.Outcome.{nowhere, place_of, refused, accepted, must, ◌>>◌}
use Rattle.paper.specs.Image.{Set, row_total}
use Rattle.paper.specs.Sound.{max_image, sound_of}
use Rattle.paper.specs.Move.{migrated, size_set}
use Rattle.paper.proofs.Outcomes.{must_ok, then_ok, bind_ok}
use Rattle.index.specs.Index.{set_in}
use Rattle.demands.specs.Passed.{ListPassed}
use Rattle.demands.proofs.Rows.Entries.{list_passes}
use Rattle.plan.specs.Plan.{new_image}
use Rattle.sizing.specs.Sizing.{size_of}
use Rattle.sizing.proofs.Outcomes.{must_fails, then_stops, bind_stops}
use Rattle.sizing.proofs.Amounts.{image_is}

-- what is too long does not fit
pub not_below : (m n : ℕ) → n < m → T (not (leb m n))
not_below m n h = not_T (leb m n) (λ t. omega (arith, leb→le m n t))

pub image_refused : (b l : List ℕ) (work : ℕ) (r : Refusal) → sound_of b ≡ refused r.number (place_of r) → size_of b l work ≡ refused r.number (place_of r)
image_refused b l work r e = bind_stops (sound_of b) (λ S. size_set S l work) r.number (place_of r) e

module _ (b l : List ℕ) (work : ℕ) (sound : sound_of b ≡ accepted (set_in b)) where
  of_set : size_of b l work ≡ size_set (set_in b) l work
  of_set = bind_ok (sound_of b) (λ S. size_set S l work) (set_in b) sound

  pub list_refused : (r : Refusal) → size_set (set_in b) l work ≡ refused r.number (place_of r) → size_of b l work ≡ refused r.number (place_of r)
  list_refused r e = of_set ∙ e

  module _ (passed : ListPassed (set_in b) l) (words : row_total (set_in b) ≤ work) where
    enough : size_of b l work ≡ (must 18 (leb (length (migrated (set_in b) l).image) max_image) >> accepted (migrated (set_in b) l))
    enough =
        let S = set_in b in
        of_set ∙ list_passes S l work passed ∙ then_ok _ _ tt (must_ok 17 (leb (row_total S) work) (le→leb (row_total S) work words))

    pub too_long : max_image < length (new_image b l) → size_of b l work ≡ refused 18 nowhere
    too_long h =
        let long = length (migrated (set_in b) l).image in
        enough ∙ then_stops _ _ 18 nowhere (must_fails 18 (leb long max_image) (not_below long max_image (omega (arith, ap length (image_is b l)))))

    pub passes : length (new_image b l) ≤ max_image → size_of b l work ≡ accepted (migrated (set_in b) l)
    passes h =
        let long = length (migrated (set_in b) l).image in
        enough ∙ then_ok _ _ tt (must_ok 18 (leb long max_image) (le→leb long max_image (omega (arith, ap length (image_is b l)))))

pub few_words : (S : Set) (l : List ℕ) (work : ℕ) → ListPassed S l → work < row_total S → size_set S l work ≡ refused 17 nowhere
few_words S l work passed h = list_passes S l work passed ∙ then_stops _ _ 17 nowhere (must_fails 17 (leb (row_total S) work) (not_below (row_total S) work h))
