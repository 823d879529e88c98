-- Refusals of a `do` block: a check that fails stops it, and blocks may be nested either way. Assumes nothing.
use Prim.Native.Nat.{ℕ}
use mathlib.Core.Path.{◌≡◌, refl, ap}
use mathlib.Core.Bool.{Bool, true, false, not}
use lib.Dec.{T}
use Rattle.paper.specs.Outcome.{Outcome, Place, nowhere, refused, accepted, must, ◌>>=◌, ◌>>◌}

pub must_fails : (k : ℕ) (t : Bool) → T (not t) → must k t ≡ refused k nowhere
unfolding must
must_fails k true h = absurd h
must_fails k false h = refl

module _ {A B : Type 0} where
  pub then_stops : (m : Outcome A) (n : Outcome B) (k : ℕ) (p : Place) → m ≡ refused k p → (m >> n) ≡ refused k p
  unfolding ◌>>◌
  then_stops m n k p e = ap (λ (x : Outcome A). x >> n) e

  pub bind_stops : (m : Outcome A) (f : A → Outcome B) (k : ℕ) (p : Place) → m ≡ refused k p → (m >>= f) ≡ refused k p
  unfolding ◌>>=◌
  bind_stops m f k p e = ap (λ (x : Outcome A). x >>= f) e

pub bind_nested : {A B C : Type 0} (m : Outcome A) (f : A → Outcome B) (g : B → Outcome C) → (m >>= (λ a. f a >>= g)) ≡ (m >>= f >>= g)
unfolding ◌>>=◌
bind_nested (refused k p) f g = refl
bind_nested (accepted a) f g = refl
