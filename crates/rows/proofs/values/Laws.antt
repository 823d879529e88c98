-- What a kind and its bits that pass rule 7 stand for; a real among them is finite, so no NaN. Assumes nothing.
use Prim.Native.Nat.{ℕ, zero, suc, ◌^◌, ◌<◌}
use mathlib.Core.Path.{◌≡◌, refl, sym, ap₂, ◌∙◌, subst}
use mathlib.Core.Bool.{true, ◌&&◌}
use lib.Dec.{eqb}
use Rattle.laws.proofs.Tests.{T_true}
use Rattle.field.specs.Bytes.{finite}
use Rattle.field.proofs.Finite.{finite_plain}
use Rattle.paper.specs.Sound.{value_fitting}
use Rattle.paper.specs.declared.Value.{Value}
use Rattle.paper.specs.Answers.{value_of, is_same_value}
use Rattle.paper.proofs.Injective.{value_same}
use Rattle.rows.specs.Values.{ValueStands, Plain}

-- neither nothing nor a whole number: a finite real
pub real_finite : (k v : ℕ) → ValueStands k v → (k ≡ 0 → ⊥) → (k ≡ 1 → ⊥) → finite v ≡ true
unfolding value_fitting
real_finite zero v s n w = absurd (n refl)
real_finite (suc zero) v s n w = absurd (w refl)
real_finite (suc (suc k)) v s n w = T_true (finite v) s.fits

value_plain : (k v : ℕ) → ValueStands k v → Plain (value_of k v)
unfolding value_fitting
value_plain zero v s = tt
value_plain (suc zero) v s = tt
value_plain (suc (suc k)) v s = finite_plain v (T_true (finite v) s.fits)

pub plain : (k v : ℕ) (x : Value) → ValueStands k v → x ≡ value_of k v → Plain x
plain k v x s e = subst Plain (sym e) (value_plain k v s)

pub values_compared : (k v j w : ℕ) (x y : Value) → ValueStands k v → ValueStands j w → v < 2 ^ 64 → w < 2 ^ 64 → x ≡ value_of k v → y ≡ value_of j w
    → is_same_value x y ≡ (eqb k j && eqb v w)
values_compared k v j w x y s t hv hw ex ey = ap₂ is_same_value ex ey ∙ value_same k v j w s.few t.few hv hw s.fits t.fits
