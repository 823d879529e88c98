-- `field::copy`: the run is put in its place. Assumes nothing.
use mathlib.Core.Path.{◌≡◌, ap, ◌∙◌}
use Prim.Native.Nat.{ℕ, ◌+◌, ◌-◌}
use native.Mathlib.Omega.{arith}
use lib.ListN.{take, drop}
use Rattle.field.proofs.Stores.{put_is, length_run}
use Rattle.field.proofs.copy.Goals as goal

pub returns : goal.returns
returns c =
    let a = c.args in
    let e : a.at + a.n - a.at ≡ a.n = omega arith in
    put_is a.out.now _ _ a.to a.n c.requires.1 (length_run a.from.now a.at a.n c.requires.0)
    (c.copy_from_slice.ensures.after ∙ ap (λ (k : ℕ). take k (drop a.at a.from.now)) e)
