-- A run of calls is a history of asks: the image held is the last accepted image, and the placement by the answers is that by the outcomes.
-- Assumes nothing.
use Prim.Native.Nat.{ℕ}
use mathlib.Core.Path.{◌≡◌, refl, sym, ap, ◌∙◌}
use mathlib.Core.List.{List, [], ◌∷◌, ◌++◌}
use Rattle.paper.specs.Placement.{Placement}
use Rattle.demands.specs.History.{Ask, answer, image_after, history, place_after, last_places}
use Rattle.calls.specs.Calls.{Call, CallKept, image_left, held, Run, held_after, place_left, places_after, ask, asks}
use Rattle.calls.proofs.Answered.{call_moved, call_refused}
use Rattle.std.specs.Prelude.{Err, Ok}
use Rattle.paper.specs.Given.{MigrateAnswer}

-- ---- one call

module _ (b : List ℕ) (c : Call) (k : CallKept b c) where
  held_is : held b c ≡ image_after b (answer b (ask c))
  unfolding image_left image_after
  held_is = go c.answer refl
    where
      go : (r : MigrateAnswer) → c.answer ≡ r → held b c ≡ image_after b (answer b (ask c))
      go (Err r) e = ap (λ (a : MigrateAnswer). image_left b a c.out') e ∙ sym (ap (image_after b) (call_refused b c k r e))
      go (Ok m) e = sym (ap (image_after b) (call_moved b c k m.length m.rows m.moved e).outcome)

  place_is : (place : Placement) → place_left c.list place c.answer ≡ place_after c.list place (answer b (ask c))
  unfolding place_left place_after
  place_is place = go c.answer refl
    where
      go : (r : MigrateAnswer) → c.answer ≡ r → place_left c.list place r ≡ place_after c.list place (answer b (ask c))
      go (Err r) e = sym (ap (place_after c.list place) (call_refused b c k r e))
      go (Ok m) e = sym (ap (place_after c.list place) (call_moved b c k m.length m.rows m.moved e).outcome)

-- ---- all of them

pub run_is_history : (b : List ℕ) (cs : List Call) → Run b cs → held_after b cs ≡ history b (asks cs)
unfolding Run held_after history
run_is_history b [] r = refl
run_is_history b (c ∷ cs) r = run_is_history (held b c) cs r.1 ∙ ap (λ (x : List ℕ). history x (asks cs)) (held_is b c r.0)

pub run_places : (b : List ℕ) (cs : List Call) (place : Placement) → Run b cs → places_after cs place ≡ last_places b (asks cs) place
unfolding Run places_after last_places
run_places b [] place r = refl
run_places b (c ∷ cs) place r =
    run_places (held b c) cs (place_left c.list place c.answer) r.1
    ∙ ap (λ (x : List ℕ). last_places x (asks cs) (place_left c.list place c.answer)) (held_is b c r.0)
    ∙ ap (last_places (image_after b (answer b (ask c))) (asks cs)) (place_is b c r.0 place)

-- ---- no call, and one call more

pub run_none : (b : List ℕ) → Run b []
unfolding Run
run_none b = tt

pub asks_then : (cs : List Call) (c : Call) → asks (cs ++ (c ∷ [])) ≡ asks cs ++ (ask c ∷ [])
asks_then [] c = refl
asks_then (d ∷ cs) c = ap (λ (as' : List Ask). ask d ∷ as') (asks_then cs c)

pub held_then : (b : List ℕ) (cs : List Call) (c : Call) → held_after b (cs ++ (c ∷ [])) ≡ held (held_after b cs) c
unfolding held_after
held_then b [] c = refl
held_then b (d ∷ cs) c = held_then (held b d) cs c

pub places_then : (cs : List Call) (c : Call) (place : Placement) → places_after (cs ++ (c ∷ [])) place ≡ place_left c.list (places_after cs place) c.answer
unfolding places_after
places_then [] c place = refl
places_then (d ∷ cs) c place = places_then cs c (place_left d.list place d.answer)

pub run_then : (b : List ℕ) (cs : List Call) (c : Call) → Run b (cs ++ (c ∷ [])) → Run b cs × CallKept (held_after b cs) c
unfolding Run held_after
run_then b [] c r = (tt, r.0)
run_then b (d ∷ cs) c r = let w = run_then (held b d) cs c r.1 in ((r.0, w.0), w.1)
