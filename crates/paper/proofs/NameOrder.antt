-- The order of names is dimension, then number, unsigned: an entity's name as one number (`name_of` of specs/Mesh.antt) orders as the two
-- do, and says both. Assumes nothing.
use Prim.Native.Nat.{ℕ, ◌^◌, ◌<◌, ◌≤◌}
use native.Mathlib.Nat.{eq-or-lt_of_le}
use native.Mathlib.Omega.{arith}
use mathlib.Core.Path.{◌≡◌}
use mathlib.Core.Logic.{◌⊎◌, inl, inr, ⊎_elim}
use Rattle.paper.specs.Mesh.{name_of}

module _ (d k e j : ℕ) (small : k < 2 ^ 32) (small' : j < 2 ^ 32) where
  -- dimension first, then number
  pub name-ascends : (d < e) ⊎ ((d ≡ e) × (k < j)) → name_of d k < name_of e j
  name-ascends (inl h) = omega arith
  name-ascends (inr h) = omega (arith, h.0, h.1)

  pub name_ascends_only : name_of d k < name_of e j → (d < e) ⊎ ((d ≡ e) × (k < j))
  name_ascends_only h =
      let first : d ≤ e = omega arith in
      ⊎_elim (λ same. inr (same, omega arith)) (λ less. inl less) (eq-or-lt_of_le first)

  -- equal names have equal dimension and number
  pub name-one : name_of d k ≡ name_of e j → (d ≡ e) × (k ≡ j)
  name-one h = (omega arith, omega arith)
