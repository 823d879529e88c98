-- A row has one remote slot for each other part of its residence set. Assumes nothing.
use Prim.Native.Nat.{ℕ, ◌<◌}
use mathlib.Core.Path.{◌≡◌}
use lib.ListN.{length}
use lib.Dec.{T}
use Rattle.part_set.specs.Masks.{has, others}
use Rattle.part_set.proofs.MaskParts.{others-count}
use Rattle.paper.specs.Image.{remotes}

pub remotes-others : (m p : ℕ) → p < 64 → T (has m p) → length (others m p) ≡ remotes m
unfolding remotes
remotes-others m p h t = others-count m p h t
