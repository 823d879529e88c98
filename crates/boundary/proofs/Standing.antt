-- Whether a slot holds a row of one dimension, by the keys of the rows. Assumes nothing.
use Prim.Native.Nat.{ℕ, ◌+◌, ◌-◌, ◌/◌, ◌^◌, ◌≤◌, ◌<◌}
use native.Mathlib.Omega.{arith}
use mathlib.Core.Path.{◌≡◌, sym}
use mathlib.Core.Bool.{false}
use mathlib.Core.List.{List}
use lib.ListN.{get_or}
use lib.Dec.{eqb}
use borrow.Author.Tests.{le-ltb, lt-ltb}
use Rattle.boundary.specs.Boundary.{face_keyed}

module _ (starts keys : List ℕ) (p d : ℕ) where
  pub face_over : (f : ℕ) {n : ℕ} → n ≡ get_or starts (p + 1) 0 - get_or starts p 0 → n ≤ f → false ≡ face_keyed starts keys p d f
  unfolding face_keyed
  face_over f e h = sym (rw (le-ltb f (get_or starts (p + 1) 0 - get_or starts p 0) (omega (arith, e, h))))

  pub face_read : (f : ℕ) {n row : ℕ} → n ≡ get_or starts (p + 1) 0 - get_or starts p 0 → f < n → row ≡ get_or starts p 0 + f → eqb (get_or keys row 0 / 2 ^ 32) d ≡ face_keyed starts keys p d f
  unfolding face_keyed
  face_read f e h at = rw (lt-ltb f (get_or starts (p + 1) 0 - get_or starts p 0) (omega (arith, e, h)), at)
