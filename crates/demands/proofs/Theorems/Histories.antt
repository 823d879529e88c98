-- A history of migrations, refused ones included, each from the last accepted image, keeps the mesh and ends where its last destinations say.
-- Assumes nothing.
use Prim.Native.Nat.{ℕ}
use mathlib.Core.Path.{◌≡◌, refl, sym, ◌∙◌, subst⁻¹}
use mathlib.Core.List.{List, [], ◌∷◌, ◌++◌}
use Rattle.paper.specs.Outcome.{Outcome, refused, accepted}
use Rattle.paper.specs.Mesh.{Entity}
use Rattle.paper.specs.Placement.{Placement, places_of}
use Rattle.paper.specs.Move.{Migrated}
use Rattle.demands.specs.History.{Ask, answer, image_after, history, place_after, last_places}
use Rattle.demands.proofs.Theorems.Statements.{places}
use Rattle.demands.proofs.Theorems.Went.{went, migrate_is}
use Rattle.demands.proofs.Theorems.Now.{Now, moves_at}
use Rattle.demands.proofs.Theorems.SameBytes.{same-places}

step : (n : ℕ) (es : List Entity) (place : Placement) (b : List ℕ) (a : Ask) → Now n es place b
    → Now n es (place_after a.list place (answer b a)) (image_after b (answer b a))
unfolding place_after image_after
step n es place b a s = go (answer b a) refl
  where
    go : (o : Outcome Migrated) → answer b a ≡ o → Now n es (place_after a.list place o) (image_after b o)
    go (refused k p) e = s
    go (accepted m) e =
        moves_at n es place b a.list m s
        (went s.set a.list a.out a.work m (sym (migrate_is b s.set a.list a.out a.work s.accepts) ∙ e))

pub keeps : (n : ℕ) (es : List Entity) (place : Placement) (b : List ℕ) (as' : List Ask) → Now n es place b
    → Now n es (last_places b as' place) (history b as')
unfolding last_places history
keeps n es place b [] s = s
keeps n es place b (a ∷ as') s = keeps n es (place_after a.list place (answer b a)) (image_after b (answer b a)) as' (step n es place b a s)

-- two histories from one image that end with the same placement end with the same bytes
pub same_end : (n : ℕ) (es : List Entity) (p q : Placement) (b b' : List ℕ) → Now n es p b → Now n es q b' → places_of es p ≡ places_of es q → b ≡ b'
same_end n es p q b b' s s' h =
    same-places b b' s.set s'.set s.is_bytes s'.is_bytes s.accepts s'.accepts (s.count ∙ sym s'.count) (s.whole ∙ sym s'.whole)
    (subst⁻¹ (λ (z : List Entity). places_of z (places s.set) ≡ places_of z (places s'.set)) s.whole (s.placed ∙ h ∙ sym s'.placed))

-- ---- the last ask counts

pub history_then : (b : List ℕ) (as' : List Ask) (a : Ask) → history b (as' ++ (a ∷ [])) ≡ image_after (history b as') (answer (history b as') a)
unfolding history
history_then b [] a = refl
history_then b (c ∷ as') a = history_then (image_after b (answer b c)) as' a

pub places_then : (b : List ℕ) (as' : List Ask) (a : Ask) (place : Placement)
    → last_places b (as' ++ (a ∷ [])) place ≡ place_after a.list (last_places b as' place) (answer (history b as') a)
unfolding history last_places
places_then b [] a place = refl
places_then b (c ∷ as') a place = places_then (image_after b (answer b c)) as' a (place_after c.list place (answer b c))
