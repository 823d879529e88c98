-- The parts that a mesh and a placement make hang on the placement of the objects alone.
-- Assumes nothing.
use Prim.Native.Nat.{ℕ}
use mathlib.Core.Path.{◌≡◌, refl, ap, ap₂, fun_ext}
use mathlib.Core.Bool.{cond}
use mathlib.Core.List.{List, [], ◌∷◌, map}
use lib.ListN.{get_or, drop}
use lib.Dec.{eqb}
use Rattle.laws.specs.Lists.{keep, flat, up_to, member}
use Rattle.paper.specs.Mesh.{Entity, name, closure}
use Rattle.paper.specs.Placement.{Placement, objects, closures, spread, places_of}

keep_same : (p q : Placement) (k : ℕ) (os : List Entity) → map (λ e. p (name e)) os ≡ map (λ e. q (name e)) os
    → keep (λ e. eqb (p (name e)) k) os ≡ keep (λ e. eqb (q (name e)) k) os
unfolding keep
keep_same p q k [] h = refl
keep_same p q k (e ∷ os) h =
    ap₂ {C = List Entity} (λ (x : ℕ) (r : List Entity). cond (eqb x k) (e ∷ r) r) (ap (λ (xs : List ℕ). get_or xs 0 0) h) (keep_same p q k os (ap (drop 1) h))

closures-same : (es : List Entity) (p q : Placement) (k : ℕ) → places_of es p ≡ places_of es q → closures es p k ≡ closures es q k
unfolding closures places_of
closures-same es p q k h = ap (λ (os : List Entity). flat (map (λ e. closure e.dim es e.number) os)) (keep_same p q k (objects es) h)

pub spread_same : (n : ℕ) (es : List Entity) (p q : Placement) → places_of es p ≡ places_of es q → spread n es p ≡ spread n es q
unfolding spread
spread_same n es p q h =
    ap (λ (c : ℕ → List ℕ). map (λ k. keep (λ e. member (name e) (c k)) es) (up_to n)) (fun_ext (λ k. closures-same es p q k h))
