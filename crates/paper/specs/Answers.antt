-- The public answers (document 01, "Refusal numbers" and "The forms we use"): for each case of an answer's enum, the paper's refusal number
-- and place, or its values. A contract is an equation with one of these, and each is one to one (proofs/Injective.antt), so it leaves no
-- second answer. Assumes nothing.
use Rattle.std.specs.Prelude.{ℕ, zero, suc, Bool, true, false, eqb, Ok, Err, Some, None}
use Rattle.std.proofs.Math.Option.{Option, none, some}
use Rattle.std.specs.Float.{binary64}
use Rattle.std.specs.Float.Ieee.{of_bits, to_bits}
use Rattle.paper.specs.declared.Value.{Value}
use Rattle.paper.specs.declared.Value.TheVariants as value
use Rattle.paper.specs.declared.Box.{Box}
use Rattle.paper.specs.Given.{CheckAnswer, MigrateAnswer, LookupAnswer, BoxAnswer}
use Rattle.paper.specs.Outcome.{Outcome, place_of, refused, accepted}
use Rattle.paper.specs.Sound.{Checked}
use Rattle.paper.specs.Move.{Sizes}
use Rattle.paper.specs.Lookup.{Found}

-- ---- an entity's value

-- the value that a kind and its eight bytes stand for; other kinds are refused under 7
abbrev pub value_of : ℕ → ℕ → Value
value_of zero bits = value.Nothing
value_of (suc zero) bits = value.Whole bits
value_of (suc (suc k)) bits = value.Real (of_bits binary64 bits)

-- equal in kind and bits
abbrev pub is_same_value : Value → Value → Bool
is_same_value value.Nothing value.Nothing = true
is_same_value value.Nothing (value.Whole n) = false
is_same_value value.Nothing (value.Real y) = false
is_same_value (value.Whole m) value.Nothing = false
is_same_value (value.Whole m) (value.Whole n) = eqb m n
is_same_value (value.Whole m) (value.Real y) = false
is_same_value (value.Real x) value.Nothing = false
is_same_value (value.Real x) (value.Whole n) = false
is_same_value (value.Real x) (value.Real y) = eqb (to_bits binary64 x) (to_bits binary64 y)

-- ---- the answers

abbrev pub check_answer : CheckAnswer → Outcome Checked
check_answer (Err r) = refused r.number (place_of r)
check_answer (Ok s) = accepted (record { parts = s.parts; rows = s.rows })

abbrev pub migrate_answer : MigrateAnswer → Outcome Sizes
migrate_answer (Err r) = refused r.number (place_of r)
migrate_answer (Ok m) = accepted (record { length = m.length; rows = m.rows; moved = m.moved })

abbrev pub lookup_answer : LookupAnswer → Outcome Found
lookup_answer (Err r) = refused r.number (place_of r)
lookup_answer (Ok h) = accepted (record { residence = h.residence; owner = h.owner.0 })

abbrev pub box_answer : BoxAnswer → Outcome (Option Box)
box_answer (Err r) = refused r.number (place_of r)
box_answer (Ok None) = accepted none
box_answer (Ok (Some b)) = accepted (some b)
