-- The head's number, test by test, and what a head that passes says. Assumes nothing.
use Prim.Native.Nat.{ℕ, suc, ◌<◌, ◌≤◌}
use native.Mathlib.Omega.{arith}
use mathlib.Core.Path.{◌≡◌, refl, sym, ◌∙◌, subst}
use mathlib.Core.Bool.{Bool, true, false, cond}
use mathlib.Core.List.{List, [], ◌∷◌}
use lib.ListN.{length, take}
use lib.Dec.{T, leb, ltb, eqb, leb→le, ltb→lt}
use borrow.Author.Tests.{le-leb, lt-leb, eq-eqb, ne_eqb, leb-true, eqb-true}
use Rattle.laws.specs.Lists.{same}
use Rattle.std.specs.Prelude.{nat_eq}
use Rattle.std.specs.Cmp.Lexicographic.{pointwise, bytes_decides}
use Rattle.laws.proofs.Same.{same_eq, same_refl}
use Rattle.laws.proofs.Tests.{split3, true_T, T_true, iff_eq}
use Rattle.field.specs.Bytes.{u8_at, u16_at}
use Rattle.paper.specs.Sound.{max_image}
use Rattle.paper.specs.Sound.{marked, parts_counted}
use Rattle.index.specs.Head.{head_number}

-- the mark, as `starts_with` reads it
pub mark_read : (b : List ℕ) {r : Bool} → r ≡ pointwise nat_eq (68 ∷ 77 ∷ 80 ∷ []) (take 3 b) → r ≡ marked b
unfolding marked
mark_read b e =
    let mark : List ℕ = 68 ∷ 77 ∷ 80 ∷ [] in
    let same_is = bytes_decides mark (take 3 b) in
    e
    ∙ iff_eq (pointwise nat_eq mark (take 3 b)) (same (take 3 b) mark)
    (λ t. subst (λ (l : List ℕ). T (same (take 3 b) l)) (sym (same_is.0 (T_true (pointwise nat_eq mark (take 3 b)) t))) (same_refl (take 3 b)))
    (λ t. true_T (pointwise nat_eq mark (take 3 b)) (same_is.1 (sym (same_eq (take 3 b) mark t))))

-- ---- each answer

module _ (b : List ℕ) where
  pub refuse_1 : max_image < length b → 1 ≡ head_number b
  unfolding head_number
  refuse_1 h = simp (lt-leb (length b) max_image h)

  module _ (small : length b ≤ max_image) where
    pub refuse_2 : length b < 8 → 2 ≡ head_number b
    unfolding head_number
    refuse_2 h = simp (le-leb (length b) max_image small, lt-leb 8 (length b) h)

    module _ (long : 8 ≤ length b) where
      pub refuse-3 : marked b ≡ false → 3 ≡ head_number b
      unfolding head_number
      refuse-3 m = simp (le-leb (length b) max_image small, le-leb 8 (length b) long, m)

      module _ (m : marked b ≡ true) where
        pub refuse-4 : (u16_at b 3 ≡ 1 → ⊥) → 4 ≡ head_number b
        unfolding head_number
        refuse-4 v = simp (le-leb (length b) max_image small, le-leb 8 (length b) long, m, ne_eqb (u16_at b 3) 1 v)

        module _ (v : u16_at b 3 ≡ 1) where
          pub refuse-5 : parts_counted b ≡ false → 5 ≡ head_number b
          unfolding head_number
          refuse-5 n = simp (le-leb (length b) max_image small, le-leb 8 (length b) long, m, eq-eqb (u16_at b 3) 1 v, n)

          pub head-passes : parts_counted b ≡ true → 0 ≡ head_number b
          unfolding head_number
          head-passes n = simp (le-leb (length b) max_image small, le-leb 8 (length b) long, m, eq-eqb (u16_at b 3) 1 v, n)

-- ---- what a head that passes says

pub record Headed (b : List ℕ) : Type 0 where
  pub small : length b ≤ max_image
  pub long : 8 ≤ length b
  pub mark : marked b ≡ true
  pub version : u16_at b 3 ≡ 1
  pub parts : parts_counted b ≡ true

-- a test that fails gives a number that is not 0
passed : (t : Bool) (k n : ℕ) → cond t n (suc k) ≡ 0 → (t ≡ true) × (n ≡ 0)
passed true k n e = (refl, e)
passed false k n e = absurd (omega (arith, e))

pub headed : (b : List ℕ) → head_number b ≡ 0 → Headed b
unfolding head_number
headed b e =
    let e₁ = passed (leb (length b) max_image) 0 _ e in
    let e₂ = passed (leb 8 (length b)) 1 _ e₁.1 in
    let e₃ = passed (marked b) 2 _ e₂.1 in
    let e₄ = passed (eqb (u16_at b 3) 1) 3 _ e₃.1 in
    let e₅ = passed (parts_counted b) 4 0 e₄.1 in
    record {
      small = leb-true (length b) max_image e₁.0;
      long = leb-true 8 (length b) e₂.0;
      mark = e₃.0;
      version = eqb-true (u16_at b 3) 1 e₄.0;
      parts = e₅.0;
    }

pub parts_some : (b : List ℕ) → Headed b → 0 < u8_at b 5
unfolding parts_counted
parts_some b h = ltb→lt 0 (u8_at b 5) (split3 (ltb 0 (u8_at b 5)) (leb (u8_at b 5) 64) (eqb (u16_at b 6) 0) (true_T _ h.parts)).0

pub parts_few : (b : List ℕ) → Headed b → u8_at b 5 ≤ 64
unfolding parts_counted
parts_few b h = leb→le (u8_at b 5) 64 (split3 (ltb 0 (u8_at b 5)) (leb (u8_at b 5) 64) (eqb (u16_at b 6) 0) (true_T _ h.parts)).1
