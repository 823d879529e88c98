-- Rule 9, in plain propositions: the slots of a boundary ascend and name rows of the dimension below.
-- Assumes nothing.
use Prim.Native.Nat.{ℕ, suc, ◌<◌}
use native.Mathlib.Omega.{arith}
use mathlib.Core.Path.{◌≡◌, subst}
use mathlib.Core.Bool.{Bool, ◌&&◌}
use mathlib.Core.List.{List}
use lib.ListN.{length, get_or}
use lib.Dec.{T, eqb, ltb, ltb→lt, eqb→eq}
use Rattle.laws.specs.Lists.{In, every, pairwise, ascending}
use Rattle.field.specs.Bytes.{words}
use Rattle.paper.specs.Image.{Row, no_row}
use Rattle.paper.specs.Mesh.{slots_of}
use Rattle.paper.specs.Sound.{slots_stand}
use Rattle.laws.proofs.Tests.{split2}
use Rattle.laws.proofs.Members.{every_in}

pub record SlotsOk (rows : List Row) (d : ℕ) (fs : List ℕ) : Type 0 where
  pub ascends : T (ascending fs)
  pub there : (t : ℕ) → In t fs → (t < length rows) × ((get_or rows t no_row).dim ≡ d)

pub slots_of_lem : (rows : List Row) (r : Row) (d : ℕ) → r.dim ≡ suc d → T (slots_stand rows r) → SlotsOk rows d (words (suc (suc d)) r.body)
unfolding slots_stand slots_of ascending
slots_of_lem rows r d e t =
    let fs = words (suc (suc d)) r.body in
    let ok : ℕ → ℕ → Bool = λ k f. ltb f (length rows) && eqb (suc (get_or rows f no_row).dim) k in
    let s = split2 (every (ok (suc d)) fs) (pairwise ltb fs) (subst (λ (k : ℕ). T (every (ok k) (slots_of k r.body) && pairwise ltb (slots_of k r.body))) e t) in
    record {
      ascends = s.1;
      there = λ f i.
          let w = split2 (ltb f (length rows)) (eqb (suc (get_or rows f no_row).dim) (suc d)) (every_in (ok (suc d)) fs s.0 f i) in
          let q = eqb→eq (suc (get_or rows f no_row).dim) (suc d) w.1 in
          (ltb→lt f (length rows) w.0, omega (arith, q));
    }
