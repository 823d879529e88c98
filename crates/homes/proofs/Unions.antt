-- The union of the words of rows, bit by bit, and the entries that a walk over rows leaves. Assumes nothing.
use Prim.Native.Nat.{ℕ, ◌<◌}
use native.Mathlib.Omega.{arith}
use mathlib.Core.Path.{◌≡◌, refl, sym, ap, ◌∙◌}
use mathlib.Core.Bool.{Bool, not, ◌||◌, or_assoc, or-false}
use mathlib.Core.Logic.{◌⊎◌, inl, inr}
use mathlib.Core.List.{List, [], ◌∷◌}
use lib.ListN.{length, get_or, set, length-set}
use lib.Seq.{get_or-set_same, get_or-set_other}
use lib.Bits.{bit_or}
use lib.Dec.{T, eqb, eqb→eq, T_not}
use Rattle.laws.specs.Lists.{In, some?}
use Rattle.laws.proofs.Tests.{decide, eq-eqb}
use Rattle.part_set.specs.Masks.{has}
use Rattle.part_set.proofs.MaskOps.{has_or}
use Rattle.homes.specs.CopyRows.{joined, numbered}

-- ---- the union

pub has-joined : (work : List ℕ) (v q : ℕ) (gs : List ℕ) → has (joined work v gs) q ≡ (has v q || some? (λ g. has (get_or work g 0) q) gs)
unfolding joined some?
has-joined work v q [] = sym (or-false (has v q))
has-joined work v q (g ∷ gs) =
    let more = some? (λ g. has (get_or work g 0) q) gs in
    has-joined work (bit_or v (get_or work g 0)) q gs ∙ ap (λ (x : Bool). x || more) (has_or v (get_or work g 0) q) ∙ or_assoc (has v q) (has (get_or work g 0) q) more

-- ---- the entries

length-numbered : (i : ℕ) (ent gs : List ℕ) → length (numbered i ent gs) ≡ length ent
unfolding numbered
length-numbered i ent [] = refl
length-numbered i ent (g ∷ gs) = length-numbered i (set ent g i) gs ∙ length-set ent g i

-- the same of a table that one row more was written to
pub length-one : (i g : ℕ) (ent gs ent' : List ℕ) → ent' ≡ numbered i (set ent g i) gs → length ent' ≡ length ent
length-one i g ent gs ent' e = ap length e ∙ length-numbered i (set ent g i) gs ∙ length-set ent g i

-- a row that has its number keeps it
numbered_keeps : (i : ℕ) (ent gs : List ℕ) (h : ℕ) → h < length ent → get_or ent h 0 ≡ i → get_or (numbered i ent gs) h 0 ≡ i
unfolding numbered
numbered_keeps i ent [] h l e = e
numbered_keeps i ent (g ∷ gs) h l e = numbered_keeps i (set ent g i) gs h (omega (arith, length-set ent g i)) (go (decide (eqb h g)))
  where
    go : T (eqb h g) ⊎ T (not (eqb h g)) → get_or (set ent g i) h 0 ≡ i
    go (inl t) = let s = eqb→eq h g t in ap (λ (x : ℕ). get_or (set ent x i) h 0) (sym s) ∙ get_or-set_same ent h i 0 l
    go (inr n) = get_or-set_other ent g h i 0 (λ s. T_not (eqb h g) n (eq-eqb h g (omega (arith, s)))) ∙ e

pub numbered_in : (i : ℕ) (ent gs : List ℕ) (h : ℕ) → h < length ent → In h gs → get_or (numbered i ent gs) h 0 ≡ i
unfolding numbered
numbered_in i ent [] h l k = absurd k
numbered_in i ent (g ∷ gs) h l (inl e) =
    numbered_keeps i (set ent g i) gs h (omega (arith, length-set ent g i)) (ap (λ (x : ℕ). get_or (set ent x i) h 0) (sym e) ∙ get_or-set_same ent h i 0 l)
numbered_in i ent (g ∷ gs) h l (inr k) = numbered_in i (set ent g i) gs h (omega (arith, length-set ent g i)) k

pub numbered_out : (i : ℕ) (ent gs : List ℕ) (h : ℕ) → (In h gs → ⊥) → get_or (numbered i ent gs) h 0 ≡ get_or ent h 0
unfolding numbered
numbered_out i ent [] h n = refl
numbered_out i ent (g ∷ gs) h n = numbered_out i (set ent g i) gs h (λ k. n (inr k)) ∙ get_or-set_other ent g h i 0 (λ s. n (inl (omega (arith, s))))
