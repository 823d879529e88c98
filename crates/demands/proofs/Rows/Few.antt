-- The rows of a part are no more than the bytes of the image.
-- Assumes nothing.
use Prim.Native.Nat.{ℕ, ◌≤◌}
use native.Mathlib.Omega.{arith}
use mathlib.Core.List.{[]}
use lib.ListN.{length, get_or}
use Rattle.paper.specs.Image.{Set, image_of}
use Rattle.paper.proofs.ImageCodec.{parts_bytes}

pub rows_few : (S : Set) (p : ℕ) → length (get_or S p []) ≤ length (image_of S)
unfolding image_of
rows_few S p = omega (arith, parts_bytes S p)
