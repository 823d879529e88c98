-- The check of the paper cut at the index: the head, the walk, and the rules. Assumes nothing.
use Prim.Native.Nat.{ℕ, suc}
use native.Mathlib.Omega.{arith}
use mathlib.Core.Path.{◌≡◌, refl, ap, ◌∙◌}
use mathlib.Core.Bool.{Bool, true, false, cond}
use mathlib.Core.List.{List}
use mathlib.Core.Option.{Option, none, some}
use lib.ListN.{length, drop}
use lib.Dec.{leb, eqb}
use Rattle.field.specs.Bytes.{u8_at, u16_at}
use Rattle.paper.specs.Outcome.{Outcome, refused, nowhere, ◌>>=◌, ◌>>◌, must, get}
use Rattle.paper.specs.Image.{Set, walk_parts}
use Rattle.paper.specs.Sound.{max_image, marked, parts_counted, decode, rules_of, sound_of}
use Rattle.index.specs.Head.{head_number}

-- five tests, and what follows them
module _ (rest : Outcome Set) where
  abbrev tests : Bool → Bool → Bool → Bool → Bool → Outcome Set
  tests t₁ t₂ t₃ t₄ t₅ = must 1 t₁ >> (must 2 t₂ >> (must 3 t₃ >> (must 4 t₄ >> (must 5 t₅ >> rest))))

  abbrev number : Bool → Bool → Bool → Bool → Bool → ℕ
  number t₁ t₂ t₃ t₄ t₅ = cond t₁ (cond t₂ (cond t₃ (cond t₄ (cond t₅ 0 5) 4) 3) 2) 1

  stops : (t₁ t₂ t₃ t₄ t₅ : Bool) (k : ℕ) → number t₁ t₂ t₃ t₄ t₅ ≡ suc k → tests t₁ t₂ t₃ t₄ t₅ ≡ refused (suc k) nowhere
  unfolding must ◌>>◌
  stops false t₂ t₃ t₄ t₅ k e = ap (λ (j : ℕ). refused j nowhere) e
  stops true false t₃ t₄ t₅ k e = ap (λ (j : ℕ). refused j nowhere) e
  stops true true false t₄ t₅ k e = ap (λ (j : ℕ). refused j nowhere) e
  stops true true true false t₅ k e = ap (λ (j : ℕ). refused j nowhere) e
  stops true true true true false k e = ap (λ (j : ℕ). refused j nowhere) e
  stops true true true true true k e = absurd (omega arith)

  goes_on : (t₁ t₂ t₃ t₄ t₅ : Bool) → number t₁ t₂ t₃ t₄ t₅ ≡ 0 → tests t₁ t₂ t₃ t₄ t₅ ≡ rest
  unfolding must ◌>>◌
  goes_on false t₂ t₃ t₄ t₅ e = absurd (omega arith)
  goes_on true false t₃ t₄ t₅ e = absurd (omega arith)
  goes_on true true false t₄ t₅ e = absurd (omega arith)
  goes_on true true true false t₅ e = absurd (omega arith)
  goes_on true true true true false e = absurd (omega arith)
  goes_on true true true true true e = refl

-- the walk after the head
abbrev walked : List ℕ → Outcome Set
walked b = get 6 (walk_parts (u8_at b 5) (drop 8 b))

pub head_stops : (b : List ℕ) (k : ℕ) → head_number b ≡ suc k → sound_of b ≡ refused (suc k) nowhere
unfolding sound_of decode head_number ◌>>=◌
head_stops b k e =
    ap (λ (o : Outcome Set). o >>= rules_of) (stops (walked b) (leb (length b) max_image) (leb 8 (length b)) (marked b) (eqb (u16_at b 3) 1) (parts_counted b) k e)

head_goes_on : (b : List ℕ) → head_number b ≡ 0 → sound_of b ≡ (walked b >>= rules_of)
unfolding sound_of decode head_number
head_goes_on b e =
    ap (λ (o : Outcome Set). o >>= rules_of) (goes_on (walked b) (leb (length b) max_image) (leb 8 (length b)) (marked b) (eqb (u16_at b 3) 1) (parts_counted b) e)

pub walk_stops : (b : List ℕ) → head_number b ≡ 0 → walk_parts (u8_at b 5) (drop 8 b) ≡ none → sound_of b ≡ refused 6 nowhere
unfolding get ◌>>=◌
walk_stops b e w = head_goes_on b e ∙ ap (λ (o : Option Set). get 6 o >>= rules_of) w

pub walk_goes_on : (b : List ℕ) (S : Set) → head_number b ≡ 0 → walk_parts (u8_at b 5) (drop 8 b) ≡ some S → sound_of b ≡ rules_of S
unfolding get ◌>>=◌
walk_goes_on b S e w = head_goes_on b e ∙ ap (λ (o : Option Set). get 6 o >>= rules_of) w
