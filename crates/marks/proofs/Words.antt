-- Words that get bits, one mark after the other. Assumes nothing.
use Prim.Native.Nat.{ℕ, ◌+◌, ◌^◌, ◌<◌}
use native.Mathlib.Omega.{arith}
use mathlib.Core.Path.{◌≡◌, refl, sym, ap, ◌∙◌}
use mathlib.Core.Bool.{Bool, true, false, not, ◌&&◌, ◌||◌, or_assoc, or-false}
use mathlib.Core.Logic.{◌⊎◌, inl, inr}
use mathlib.Core.List.{List, []}
use lib.ListN.{length, get_or, set, length-set}
use lib.Seq.{get_or-set_same, get_or-set_other}
use lib.Bits.{bit_or}
use lib.Dec.{T, eqb, eqb→eq, T_not}
use Rattle.laws.proofs.Tests.{decide, T_true, ne_eqb, eq-eqb}
use Rattle.part_set.specs.Masks.{has}
use Rattle.part_set.proofs.OnePart.{has_with}
use Rattle.index.specs.Index.{set_in}
use Rattle.marks.specs.Closures.{Marked}

-- one bit for both
pub or_and : (a b e : Bool) → ((a && e) || (b && e)) ≡ ((a || b) && e)
or_and true true true = refl
or_and true true false = refl
or_and true false true = refl
or_and true false false = refl
or_and false b e = refl

-- one word, one bit
module _ (first : ℕ) (w : List ℕ) (s q : ℕ) where
  at_bit : first + s < length w → (t r : ℕ) → T (eqb t s) ⊎ T (not (eqb t s))
      → has (get_or (set w (first + s) (bit_or (get_or w (first + s) 0) (2 ^ q))) (first + t) 0) r ≡ (has (get_or w (first + t) 0) r || (eqb t s && eqb r q))
  at_bit room t r (inl e) =
      let v = bit_or (get_or w (first + s) 0) (2 ^ q) in
      ap (λ (i : ℕ). has (get_or (set w (first + s) v) (first + i) 0) r) (eqb→eq t s e)
      ∙ ap (λ (x : ℕ). has x r) (get_or-set_same w (first + s) v 0 room)
      ∙ has_with (get_or w (first + s) 0) q r
      ∙ ap (λ (i : ℕ). has (get_or w (first + i) 0) r || eqb r q) (sym (eqb→eq t s e))
      ∙ ap (λ (x : Bool). has (get_or w (first + t) 0) r || (x && eqb r q)) (sym (T_true (eqb t s) e))
  at_bit room t r (inr e) =
      let v = bit_or (get_or w (first + s) 0) (2 ^ q) in
      let ne : t ≡ s → ⊥ = λ z. T_not (eqb t s) e (eq-eqb t s z) in
      ap (λ (x : ℕ). has x r) (get_or-set_other w (first + s) (first + t) v 0 (λ z. ne (omega (arith, z))))
      ∙ sym (or-false (has (get_or w (first + t) 0) r))
      ∙ ap (λ (x : Bool). has (get_or w (first + t) 0) r || (x && eqb r q)) (sym (ne_eqb t s ne))

module _ {b starts : List ℕ} {p : ℕ} where
  pub mark_none : (w : List ℕ) → Marked b starts p (λ t r. false) w w
  mark_none w = record {
    same = refl;
    bit = λ t r h. sym (or-false (has (get_or w (get_or starts p 0 + t) 0) r));
    before = λ g h. refl;
    behind = λ g h. refl;
  }

  pub mark_same : {h k : ℕ → ℕ → Bool} {w w' : List ℕ} → ((t r : ℕ) → h t r ≡ k t r) → Marked b starts p h w w' → Marked b starts p k w w'
  mark_same {h} {k} {w} e m = record {
    same = m.same;
    bit = λ t r l. m.bit t r l ∙ ap (λ (x : Bool). has (get_or w (get_or starts p 0 + t) 0) r || x) (e t r);
    before = m.before;
    behind = m.behind;
  }

  pub mark_then : {h k : ℕ → ℕ → Bool} {w w' w'' : List ℕ} → Marked b starts p h w w' → Marked b starts p k w' w'' → Marked b starts p (λ t r. h t r || k t r) w w''
  mark_then {h} {k} {w} m n = record {
    same = n.same ∙ m.same;
    bit = λ t r l. n.bit t r l ∙ ap (λ (x : Bool). x || k t r) (m.bit t r l) ∙ or_assoc (has (get_or w (get_or starts p 0 + t) 0) r) (h t r) (k t r);
    before = λ g l. n.before g l ∙ m.before g l;
    behind = λ g l. n.behind g l ∙ m.behind g l;
  }

  pub mark_set : (w : List ℕ) (s q : ℕ) → s < length (get_or (set_in b) p []) → get_or starts p 0 + s < length w
      → Marked b starts p (λ t r. eqb t s && eqb r q) w (set w (get_or starts p 0 + s) (bit_or (get_or w (get_or starts p 0 + s) 0) (2 ^ q)))
  mark_set w s q here room =
      let first = get_or starts p 0 in
      let v = bit_or (get_or w (first + s) 0) (2 ^ q) in
      record {
        same = length-set w (first + s) v;
        bit = λ t r l. at_bit first w s q room t r (decide (eqb t s));
        before = λ g l. get_or-set_other w (first + s) g v 0 (λ z. omega (arith, z));
        behind = λ g l. get_or-set_other w (first + s) g v 0 (λ z. omega (arith, z));
      }
