-- The first entry that fails, looked for from 0 upwards, on plain values, for any test. Assumes nothing.
use Prim.Native.Nat.{ℕ, ◌+◌, ◌-◌, ◌≤◌, ◌<◌}
use native.Mathlib.Numerals.{add-one}
use native.Mathlib.Omega.{arith}
use mathlib.Core.Path.{◌≡◌, refl, sym, ◌∙◌}
use mathlib.Core.Bool.{Bool, true, false, not}
use mathlib.Core.Option.{none, some}
use borrow.Author.Tests.{not-true, not-false}
use Rattle.laws.specs.Lists.{from, up_to, first_bad}
use Rattle.laws.proofs.FirstBad.{sub_step}

-- none of those before i fails, and what is left gives the answer
pub record AtEntry (ok : ℕ → Bool) (n i : ℕ) : Type 0 where
  pub within : i ≤ n
  pub left : first_bad ok (from i (n - i)) ≡ first_bad ok (up_to n)

module _ {ok : ℕ → Bool} {n : ℕ} where
  pub start : AtEntry ok n 0
  unfolding up_to
  start = record { within = omega arith; left = let z : n - 0 ≡ n = omega arith in rw z refl }

  pub skip : {i : ℕ} → AtEntry ok n i → i < n → {r : Bool} → r ≡ ok i → not r ≡ false → AtEntry ok n (i + 1)
  unfolding first_bad from
  skip {i} at h {r} e kept = let keeps : ok i ≡ true = sym e ∙ not-false r kept in record {
    within = omega arith;
    left = rw (add-one i) (rw (sub_step n i h, keeps) at at.left);
  }

  pub hit : {i : ℕ} → AtEntry ok n i → i < n → {r : Bool} → r ≡ ok i → not r ≡ true → some i ≡ first_bad ok (up_to n)
  unfolding first_bad from
  hit {i} at h {r} e broken = let breaks : ok i ≡ false = sym e ∙ not-true r broken in rw (sub_step n i h, breaks) at at.left

  pub over : {i : ℕ} → AtEntry ok n i → n ≤ i → none ≡ first_bad ok (up_to n)
  unfolding first_bad from
  over {i} at h = let z : n - i ≡ 0 = omega arith in rw z at at.left
