-- Refusals (document 01, "Refusal numbers"): an answer is a refusal with its number and place, or a value.
-- `◌>>=◌` and `◌>>◌` stop at the first refusal, so a `do` block lists the checks in the order of the table: each is judged only when all
-- before it pass. Places, and the refusals of the code, are made here and nowhere else. Assumes nothing.
use Rattle.std.specs.Prelude.{ℕ, ◌-◌, ◌^◌, Bool, true, false, cond, List, [], ◌∷◌, ltb}
use Rattle.std.proofs.Math.Option.{Option, none, some}
use Rattle.paper.specs.declared.Refusal.{Refusal}

-- ---- places

-- a place is two numbers: part and slot, or entry and 0
pub record Place : Type 0 where
  pub major : ℕ
  pub minor : ℕ

abbrev pub nowhere : Place
nowhere = record { major = 0; minor = 0 }

abbrev pub at_row : ℕ → ℕ → Place
at_row p s = record { major = p; minor = s }

-- An answer has 32 bits for the number of an entry: one from 2^32 on, in a list of 32 GiB, is given as 2^32 - 1.
abbrev pub at_entry : ℕ → Place
at_entry i = record { major = cond (ltb i (2 ^ 32)) i (2 ^ 32 - 1); minor = 0 }

-- the refusal of the code that has this number and place, and the place of one
abbrev pub refusal : ℕ → Place → Refusal
refusal k p = record { number = k; major = p.major; minor = p.minor }

abbrev pub place_of : Refusal → Place
place_of r = record { major = r.major; minor = r.minor }

-- ---- outcomes

pub data Outcome (A : Type 0) : Type 0 where
  refused : ℕ → Place → Outcome A
  accepted : A → Outcome A

infixl 10 ◌>>=◌ ◌>>◌
module _ {A B : Type 0} where
  unfoldable pub ◌>>=◌ : Outcome A → (A → Outcome B) → Outcome B
  ◌>>=◌ (refused k p) f = refused k p
  ◌>>=◌ (accepted a) f = f a

  unfoldable pub ◌>>◌ : Outcome A → Outcome B → Outcome B
  ◌>>◌ (refused k p) n = refused k p
  ◌>>◌ (accepted a) n = n

  -- the same answer with another value
  unfoldable pub answered : (A → B) → Outcome A → Outcome B
  answered f (refused k p) = refused k p
  answered f (accepted a) = accepted (f a)

-- refusal k at 0 0, unless the test passes
unfoldable pub must : ℕ → Bool → Outcome (Unit {0})
must k true = accepted tt
must k false = refused k nowhere

-- refusal k at 0 0 where there is no value
unfoldable pub get : {A : Type 0} → ℕ → Option A → Outcome A
get k none = refused k nowhere
get k (some a) = accepted a

-- refusal k at the place that is found, if one is
unfoldable pub unless : ℕ → Option Place → Outcome (Unit {0})
unless k none = accepted tt
unless k (some p) = refused k p

-- the checks of some rules, one after the other
unfoldable pub in_turn : {R : Type 0} → (R → Outcome (Unit {0})) → List R → Outcome (Unit {0})
in_turn check [] = accepted tt
in_turn check (r ∷ rs) = check r >> in_turn check rs

-- opens this module, for what is to compute
unfoldable pub computes : Unit {0}
unfolding ◌>>=◌ ◌>>◌ answered must get unless in_turn
computes = tt
