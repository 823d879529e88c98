-- What each part of a spread holds, and where a name is found in parts.
-- Assumes nothing.
use Prim.Native.Nat.{ℕ, zero, suc, ◌<◌, suc-le-suc}
use native.Mathlib.Nat.{zero-lt-suc}
use mathlib.Core.Path.{◌≡◌, refl, sym, ap, ◌∙◌, subst}
use mathlib.Core.Bool.{Bool, true, false, cond}
use mathlib.Core.List.{List, [], ◌∷◌}
use lib.ListN.{length, get_or, length-map}
use lib.Dec.{T, eqb, eqb→eq}
use Rattle.laws.specs.Lists.{In, keep, up_to, member}
use Rattle.paper.specs.Mesh.{Entity, Parts, name, is_object, holds, closure}
use Rattle.paper.specs.Placement.{Placement, objects, closures, spread, place_in}
use Rattle.laws.proofs.Members.{keep_in, in_keep, member_in, in_member, part_lt, flat_map_in, in_flat_map}
use Rattle.laws.proofs.Agree.{get_or_map}
use Rattle.laws.proofs.Ranges.{length_up_to, get_or_up_to}
use Rattle.laws.proofs.Tests.{eq-eqb}
use Rattle.demands.proofs.Entities.Closures.{closure_of}
use native.Mathlib.Nat.{not-suc-le-zero, le_of_suc-le-suc}

-- k is in the closure of an object that is placed in p
pub record Under (es : List Entity) (place : Placement) (p k : ℕ) : Type 0 where
  pub top : Entity
  pub in_mesh : In top es
  pub object : T (is_object es (name top))
  pub placed : place (name top) ≡ p
  pub covers : In k (closure_of es top)

pub objects_in_lem : (es : List Entity) (e : Entity) → In e (objects es) → In e es × T (is_object es (name e))
unfolding objects
objects_in_lem es e i = keep_in (λ e. is_object es (name e)) es e i

pub in_objects : (es : List Entity) (e : Entity) → In e es → T (is_object es (name e)) → In e (objects es)
unfolding objects
in_objects es e i t = in_keep (λ e. is_object es (name e)) es e i t

closures_in : (es : List Entity) (place : Placement) (p k : ℕ) → In k (closures es place p) → Under es place p k
unfolding closures
closures_in es place p k i =
    let w = flat_map_in (λ e. closure e.dim es e.number) (keep (λ e. eqb (place (name e)) p) (objects es)) k i in
    let v = keep_in (λ e. eqb (place (name e)) p) (objects es) w.0 w.1 in
    let o = objects_in_lem es w.0 v.0 in
    record { top = w.0; in_mesh = o.0; object = o.1; placed = eqb→eq (place (name w.0)) p v.1; covers = w.2 }

in_closures : (es : List Entity) (place : Placement) (p k : ℕ) → Under es place p k → In k (closures es place p)
unfolding closures
in_closures es place p k u =
    in_flat_map (λ e. closure e.dim es e.number) (keep (λ e. eqb (place (name e)) p) (objects es)) u.top k
    (in_keep (λ e. eqb (place (name e)) p) (objects es) u.top (in_objects es u.top u.in_mesh u.object) (eq-eqb (place (name u.top)) p u.placed))
    u.covers

module _ (n : ℕ) (es : List Entity) (place : Placement) where
  pub spread-length : length (spread n es place) ≡ n
  unfolding spread
  spread-length = length-map (up_to n) (λ p. let c = closures es place p in keep (λ e. member (name e) c) es) ∙ length_up_to n

  pub spread-part : (p : ℕ) → p < n → get_or (spread n es place) p [] ≡ keep (λ e. member (name e) (closures es place p)) es
  unfolding spread
  spread-part p h =
      let part : ℕ → List Entity = λ p. keep (λ e. member (name e) (closures es place p)) es in
      get_or_map part (up_to n) p 0 [] (subst (λ (z : ℕ). p < z) (sym (length_up_to n)) h) ∙ ap part (get_or_up_to n p 0 h)

  pub spread_in : (p : ℕ) (e : Entity) → In e (get_or (spread n es place) p []) → (p < n) × In e es × Under es place p (name e)
  spread_in p e i =
      let h : p < n = subst (λ (z : ℕ). p < z) spread-length (part_lt (spread n es place) p e i) in
      let w = keep_in (λ e. member (name e) (closures es place p)) es e (subst (λ (l : List Entity). In e l) (spread-part p h) i) in
      (h, w.0, closures_in es place p (name e) (member_in (name e) (closures es place p) w.1))

  pub in_spread : (p : ℕ) (e : Entity) → p < n → In e es → Under es place p (name e) → In e (get_or (spread n es place) p [])
  in_spread p e h i u =
      subst (λ (l : List Entity). In e l) (sym (spread-part p h))
      (in_keep (λ e. member (name e) (closures es place p)) es e i (in_member (name e) (closures es place p) (in_closures es place p (name e) u)))

-- a name that some part holds is found in the first that does
pub place_found : (ps : Parts) (p k : ℕ) → p < length ps → T (holds (get_or ps p []) k) → (place_in ps k < length ps) × T (holds (get_or ps (place_in ps k) []) k)
unfolding place_in
place_found [] p k h t = absurd (not-suc-le-zero h)
place_found (es ∷ ps) zero k h t = go (holds es k) refl t
  where
    go : (b : Bool) → holds es k ≡ b → T b → (cond b 0 (suc (place_in ps k)) < suc (length ps)) × T (holds (get_or (es ∷ ps) (cond b 0 (suc (place_in ps k))) []) k)
    go true e s = (zero-lt-suc (length ps), subst T (sym e) tt)
    go false e s = absurd s
place_found (es ∷ ps) (suc p) k h t = go (holds es k) refl (place_found ps p k (le_of_suc-le-suc h) t)
  where
    go : (b : Bool) → holds es k ≡ b → (place_in ps k < length ps) × T (holds (get_or ps (place_in ps k) []) k)
        → (cond b 0 (suc (place_in ps k)) < suc (length ps)) × T (holds (get_or (es ∷ ps) (cond b 0 (suc (place_in ps k))) []) k)
    go true e r = (zero-lt-suc (length ps), subst T (sym e) tt)
    go false e r = (suc-le-suc r.0, r.1)
