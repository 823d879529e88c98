-- Each answer's enum says one thing of document 01: two answers that mean the same are the same, so a contract that is an equation with
-- one of specs/Answers.antt leaves no second answer; and two values are the same exactly where their kinds and their bits are.
-- Assumes nothing.
use Prim.Native.Nat.{ℕ, zero, suc, ◌^◌, ◌<◌, ◌≤◌}
use native.Mathlib.Omega.{arith}
use mathlib.Core.Path.{◌≡◌, refl, sym, ap, ◌∙◌}
use mathlib.Core.Bool.{true, ◌&&◌}
use lib.Dec.{T, eqb, eqb→eq}
use lib.Ieee.{binary64, of_bits, to_bits}
use lib.Ieee.Bits.{to_bits-of_bits}
use borrow.Author.Tests.{eq-eqb, ne_eqb}
use Rattle.paper.specs.declared.Refusal.{Refusal}
use Rattle.paper.specs.Outcome.{Outcome, refused}
use Rattle.paper.specs.Sound.{value_fitting}
use Rattle.paper.specs.Answers.{value_of, is_same_value, check_answer, migrate_answer, lookup_answer, box_answer}
use Rattle.paper.specs.Outcome.{place_of}
use Rattle.paper.proofs.Outcomes.{accepted_inj}
use Rattle.laws.proofs.Tests.{T_true}
use Rattle.field.specs.Bytes.{finite}
use Rattle.field.proofs.Finite.{finite_plain}
use Rattle.std.specs.Prelude.{Err, Ok, None, Some}
use Rattle.paper.specs.Given.{CheckAnswer, MigrateAnswer, LookupAnswer, BoxAnswer, sound_answer_of, moved_answer_of, found_answer_of}

-- ---- the answers

-- a refusal is its number and its place
refusal-one : {A : Type 0} (r q : Refusal) → ◌≡◌ {A = Outcome A} (refused r.number (place_of r)) (refused q.number (place_of q)) → r ≡ q
refusal-one r q e =
    let number : r.number ≡ q.number = cc in
    let place : place_of r ≡ place_of q = cc in
    λ i. record { number = number i; major = (place i).major; minor = (place i).minor }

pub check-one : (a b : CheckAnswer) → check_answer a ≡ check_answer b → a ≡ b
check-one (Err r) (Err q) e = ap Err (refusal-one r q e)
check-one (Err r) (Ok t) e = cc
check-one (Ok s) (Err q) e = cc
check-one (Ok s) (Ok t) e =
    let values = accepted_inj e in
    λ i. sound_answer_of (values i).parts (values i).rows

pub migrate_one : (a b : MigrateAnswer) → migrate_answer a ≡ migrate_answer b → a ≡ b
migrate_one (Err r) (Err q) e = ap Err (refusal-one r q e)
migrate_one (Err r) (Ok n) e = cc
migrate_one (Ok m) (Err q) e = cc
migrate_one (Ok m) (Ok n) e =
    let values = accepted_inj e in
    λ i. moved_answer_of (values i).length (values i).rows (values i).moved

pub lookup-one : (a b : LookupAnswer) → lookup_answer a ≡ lookup_answer b → a ≡ b
lookup-one (Err r) (Err q) e = ap Err (refusal-one r q e)
lookup-one (Err r) (Ok k) e = cc
lookup-one (Ok h) (Err q) e = cc
lookup-one (Ok h) (Ok k) e =
    let values = accepted_inj e in
    λ i. found_answer_of (values i).residence (record { 0 = (values i).owner })

pub box-one : (a b : BoxAnswer) → box_answer a ≡ box_answer b → a ≡ b
box-one (Err r) (Err q) e = ap Err (refusal-one r q e)
box-one (Err r) (Ok None) e = cc
box-one (Err r) (Ok (Some b)) e = cc
box-one (Ok None) (Err q) e = cc
box-one (Ok None) (Ok None) e = refl
box-one (Ok None) (Ok (Some b)) e = cc
box-one (Ok (Some b)) (Err q) e = cc
box-one (Ok (Some b)) (Ok None) e = cc
box-one (Ok (Some b)) (Ok (Some c)) e = cc

-- ---- values

-- the bits of a finite real come back from its float
finite_bits : (b : ℕ) → b < 2 ^ 64 → finite b ≡ true → to_bits binary64 (of_bits binary64 b) ≡ b
finite_bits b small h = to_bits-of_bits binary64 b small (finite_plain b h)

-- of values that pass 7, the same are those with equal kinds and equal bits
pub value_same : (k v j w : ℕ) → k ≤ 2 → j ≤ 2 → v < 2 ^ 64 → w < 2 ^ 64 → T (value_fitting k v) → T (value_fitting j w)
    → is_same_value (value_of k v) (value_of j w) ≡ (eqb k j && eqb v w)
unfolding value_fitting
value_same zero v zero w hk hj hv hw fv fw = sym (eq-eqb v w (eqb→eq v 0 fv ∙ sym (eqb→eq w 0 fw)))
value_same zero v (suc zero) w hk hj hv hw fv fw = refl
value_same zero v (suc (suc j)) w hk hj hv hw fv fw = rw (ne_eqb 0 (suc (suc j)) (λ e. omega arith))
value_same (suc zero) v zero w hk hj hv hw fv fw = refl
value_same (suc zero) v (suc zero) w hk hj hv hw fv fw = refl
value_same (suc zero) v (suc (suc j)) w hk hj hv hw fv fw = rw (ne_eqb 1 (suc (suc j)) (λ e. omega arith))
value_same (suc (suc k)) v zero w hk hj hv hw fv fw = rw (ne_eqb (suc (suc k)) 0 (λ e. omega arith))
value_same (suc (suc k)) v (suc zero) w hk hj hv hw fv fw = rw (ne_eqb (suc (suc k)) 1 (λ e. omega arith))
value_same (suc (suc k)) v (suc (suc j)) w hk hj hv hw fv fw =
    let kinds : suc (suc k) ≡ suc (suc j) = omega arith in
    rw (finite_bits v hv (T_true (finite v) fv), finite_bits w hw (T_true (finite w) fw), eq-eqb (suc (suc k)) (suc (suc j)) kinds)
