-- What is known behind rule 10, on plain values. Assumes nothing.
use Prim.Native.Nat.{ℕ}
use native.Mathlib.Omega.{arith}
use mathlib.Core.Path.{◌≡◌, refl, ◌∙◌}
use mathlib.Core.Bool.{Bool, true}
use mathlib.Core.List.{List}
use mathlib.Core.Option as math
use Rattle.std.specs.Prelude.{Option, None, Some, Result, Ok, is_ok}
use Rattle.paper.specs.declared.Part.{Part}
use Rattle.paper.specs.declared.Slot.{Slot}
use Rattle.paper.specs.Image.{Set}
use Rattle.index.specs.Index.{set_in, Indexed, Named}
use Rattle.paper.specs.declared.Rule.TheVariants.{Fields, Order, Copies}
use Rattle.copies.proofs.Holders.{twins_pass}
use Rattle.demands.specs.Passed.{Passed, PassedAhead, PassedThrough}
use Rattle.demands.proofs.Rows.Faults.{passes_none}
use Rattle.entities.specs.declared.Repeated.{Repeated}
use Rattle.entities.specs.LowestCopies.{Entities}
use Rattle.entities.proofs.Distinct.{distinct_copies, copies_distinct}
use Rattle.sound.specs.Tests.{tested, rule_for, Twins}
use Rattle.sound.specs.Faults.{fault_place, Tells, FirstFault}
use Rattle.sound.specs.Stages.{EachOnce}
use Rattle.sound.proofs.Judging.{clear_passes}
use Rattle.sound.proofs.Stages.{goes}

no_fault : (fault : Option (Part × Slot)) → fault_place fault ≡ math.none → fault ≡ None
no_fault None e = refl
no_fault (Some f) e = absurd (math.some-ne-none _ e)

-- where rule 10 passes, each copy that a row names agrees
pub twins_clear : {says : Part → Slot → Bool → Type 0} (S : Set) {fault : Option (Part × Slot)} → FirstFault says S fault → Tells says S (tested Twins S) → Passed Copies S → fault ≡ None
twins_clear S {fault} first tells pass = no_fault fault (first.place (tested Twins S) tells ∙ passes_none (tested Twins S) S (twins_pass S pass))

module _ {b offs starts keys ord tmp ord' tmp' : List ℕ} {n : ℕ} (index : Indexed b offs starts n) (named : Named b starts keys) (ahead : PassedAhead (rule_for Twins) (set_in b)) where
  -- every copy agrees and no name is there twice: rule 10 passes, and the entities are listed
  module _ {count : ℕ} (listed : Entities (set_in b) starts keys ord tmp ord' tmp' n (Ok count)) where
    pub names_listed : {says : Part → Slot → Bool → Type 0} → FirstFault says (set_in b) None → Tells says (set_in b) (tested Twins (set_in b))
        → PassedThrough Copies (set_in b) × EachOnce (set_in b) starts keys ord' n count
    names_listed first tells = (
      goes (set_in b) Copies ahead (distinct_copies index named (ahead Fields (omega arith)) (ahead Order (omega arith)) listed (clear_passes (tested Twins (set_in b)) tells first) refl),
      record {
        rows = listed.rows;
        distinct = listed.distinct;
        few = listed.few;
        within = listed.within;
        same_ord = refl;
        same_tmp = refl;
      },
    )

  -- where rule 10 passes no name is there twice
  pub names_distinct : {r : Result ℕ Repeated} → Entities (set_in b) starts keys ord tmp ord' tmp' n r → Passed Copies (set_in b) → is_ok r ≡ true
  names_distinct listed pass = copies_distinct index named (ahead Fields (omega arith)) (ahead Order (omega arith)) listed pass
