-- `field::put_zeros`: the zeros are put in their place. Assumes nothing.
use mathlib.Core.Path.{◌≡◌, ap, ◌∙◌}
use mathlib.Core.List.{List}
use Prim.Native.Nat.{ℕ, ◌+◌, ◌-◌}
use native.Mathlib.Omega.{arith}
use lib.ListN.{length, take, drop, replicate, length-replicate}
use Rattle.field.proofs.Stores.{put_is, length_run}
use Rattle.field.proofs.put_zeros.Goals as goal

pub returns : goal.returns
returns c =
    let a = c.args in
    let e : a.at + a.n - a.at ≡ a.n = omega arith in
    let f = ap (λ (k : ℕ). length (take k (drop a.at a.out.now))) e ∙ length_run a.out.now a.at a.n c.requires in
    put_is a.out.now _ _ a.at a.n c.requires (length-replicate {A = ℕ} a.n 0) (c.fill.ensures.after (λ y h. h) ∙ ap {B = List ℕ} (λ (k : ℕ). replicate k 0) f)
