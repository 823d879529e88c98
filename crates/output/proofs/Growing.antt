-- Pieces written one behind the other, from byte 8 of the output on: what stands there grows at its end, piece by piece. Assumes nothing.
use Prim.Native.Nat.{ℕ, zero, suc, ◌+◌, ◌≤◌, ◌<◌}
use native.Mathlib.Nat.{eq-or-lt_of_le}
use native.Mathlib.Numerals.{add-one}
use native.Mathlib.Omega.{arith}
use mathlib.Core.Path.{◌≡◌, refl, sym, ap, ◌∙◌}
use mathlib.Core.Logic.{⊎_elim}
use mathlib.Core.List.{List, [], ◌++◌}
use lib.ListN.{length, length-append}
use lib.Seq.{sets, length-sets}
use Rattle.laws.proofs.Stores.{sets_then}
use Rattle.writer.specs.Written.{Put}
use Rattle.output.specs.Parts.{pieces}

pub pieces_none : (f : ℕ → List ℕ) → pieces f 0 ≡ []
unfolding pieces
pieces_none f = refl

pub pieces_more : (f : ℕ → List ℕ) (q : ℕ) → pieces f (q + 1) ≡ pieces f q ++ f q
unfolding pieces
pieces_more f q = rw (add-one q)

-- fewer pieces are no longer
pieces_up : (f : ℕ → List ℕ) (q n : ℕ) → q ≤ n → length (pieces f q) ≤ length (pieces f n)
unfolding pieces
pieces_up f q zero h = let e : q ≡ 0 = omega arith in omega (arith, ap (λ (k : ℕ). length (pieces f k)) e)
pieces_up f q (suc n) h =
    ⊎_elim (λ (e : q ≡ suc n). omega (arith, ap (λ (k : ℕ). length (pieces f k)) e))
    (λ (l : q < suc n). omega (arith, pieces_up f q n (omega arith), length-append (pieces f n) (f n))) (eq-or-lt_of_le h)

-- q of n pieces stand from byte 8 on, and the next goes to `at`
pub record Growing (f : ℕ → List ℕ) (n : ℕ) (start out : List ℕ) (q at : ℕ) : Type 0 where
  pub to : q ≤ n
  pub next : at ≡ 8 + length (pieces f q)
  pub put : out ≡ sets start 8 (pieces f q)

pub growing_none : (f : ℕ → List ℕ) (n : ℕ) (start : List ℕ) → Growing f n start start 0 8
growing_none f n start = record {
  to = omega arith;
  next = omega (arith, ap length (pieces_none f));
  put = ap (sets start 8) (sym (pieces_none f));
}

module _ {f : ℕ → List ℕ} {n : ℕ} {start out : List ℕ} {q at : ℕ} (g : Growing f n start out q at) where
  pub growing_same : length out ≡ length start
  growing_same = ap length g.put ∙ length-sets start 8 (pieces f q)

  pub growing_room : 8 + length (pieces f n) ≤ length start → q < n → at + length (f q) ≤ length out
  growing_room h l =
      omega (arith, g.next, growing_same, ap length (pieces_more f q), length-append (pieces f q) (f q), pieces_up f (q + 1) n (omega arith))

  pub growing_more : {out' : List ℕ} {r : ℕ} → q < n → Put (f q) out out' at r → Growing f n start out' (q + 1) r
  growing_more {out'} l w = record {
    to = omega arith;
    next = omega (arith, g.next, w.next?, ap length (pieces_more f q), length-append (pieces f q) (f q));
    put = sets_then start out out' 8 at (pieces f q) (f q) g.put w.written g.next ∙ ap (sets start 8) (sym (pieces_more f q));
  }
