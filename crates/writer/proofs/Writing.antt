-- Runs of bytes written one after another: what is left to write gives what was to be written.
-- Assumes nothing.
use Prim.Native.Nat.{ℕ, ◌+◌, ◌≤◌}
use native.Mathlib.Omega.{arith}
use mathlib.Core.Path.{◌≡◌, refl, sym, ap, ◌∙◌}
use mathlib.Core.List.{List, [], ◌++◌}
use lib.ListN.{length, length-append}
use lib.Seq.{sets, length-sets}
use Rattle.laws.proofs.Stores.{sets_append}

-- `rest` is left to write from `to` on, so that `all` stands from `at` on
pub record Writing (start : List ℕ) (at : ℕ) (all out : List ℕ) (to : ℕ) (rest : List ℕ) : Type 0 where
  pub same : length out ≡ length start
  pub room : to + length rest ≤ length out
  pub left : sets out to rest ≡ sets start at all

pub write_none : (start : List ℕ) (at : ℕ) (all rest : List ℕ) → rest ≡ all → at + length all ≤ length start → Writing start at all start at rest
write_none start at all rest e h = record { same = refl; room = omega (arith, ap length e); left = ap (sets start at) e }

pub write_more : (start : List ℕ) (at : ℕ) (all out : List ℕ) (to : ℕ) (rest xs ys next : List ℕ) (to' : ℕ)
    → Writing start at all out to rest → rest ≡ xs ++ ys → next ≡ sets out to xs → to' ≡ to + length xs → Writing start at all next to' ys
write_more start at all out to rest xs ys next to' w e f h =
    let l = ap length f ∙ length-sets out to xs in
    record {
      same = l ∙ w.same;
      room = omega (arith, w.room, ap length e, length-append xs ys, l);
      left = rw (f, h) (sym (sets_append out to xs ys) ∙ ap (sets out to) (sym e) ∙ w.left);
    }

pub write_done : (start : List ℕ) (at : ℕ) (all out : List ℕ) (to : ℕ) (rest : List ℕ) → Writing start at all out to rest → rest ≡ [] → out ≡ sets start at all
write_done start at all out to rest w e = ap (sets out to) (sym e) ∙ w.left
