-- The head, the walk and the rules together are the paper's check. Assumes nothing.
use Prim.Native.Nat.{ℕ, zero, suc, ◌≤◌}
use native.Mathlib.Omega.{arith}
use mathlib.Core.Path.{◌≡◌, refl, sym, ap, ap₂, ◌∙◌, subst}
use mathlib.Core.List.{List}
use mathlib.Core.Option.{none}
use lib.ListN.{length, drop}
use Rattle.std.specs.Prelude.{Ok, Err}
use Rattle.field.specs.Bytes.{u8_at}
use Rattle.paper.specs.declared.Refusal.{Refusal}
use Rattle.paper.specs.declared.Unplaced.{Unplaced}
use Rattle.paper.specs.declared.Unplaced.TheVariants.{ImageTooLong, ImageTooShort, WrongMark, WrongVersion, WrongCount, NotFilled, WorkTooShort, ResultTooLong, OutputTooShort, NoSuchPart, NoSuchEntity}
use Rattle.paper.specs.Given.{CheckAnswer}
use Rattle.paper.specs.Outcome.{Outcome, nowhere, refusal, place_of, refused, accepted, ◌>>=◌}
use Rattle.paper.specs.Image.{Set, walk_parts, row_total}
use Rattle.paper.specs.Sound.{rules_of, sound_of, Checked, check_of}
use Rattle.paper.specs.Promises.{Checks}
use Rattle.paper.specs.Unplaced.{number_of_unplaced}
use Rattle.paper.proofs.Outcomes.{as_refused}
use Rattle.paper.specs.declared.Rule.TheVariants.{Owner}
use Rattle.demands.specs.Passed.{PassedThrough}
use Rattle.demands.proofs.Rows.Faults.{rules_ok}
use Rattle.index.specs.Index.{set_in, max_rows, Indexed}
use Rattle.index.specs.Head.{head_number}
use Rattle.index.specs.Walk.{Whole}
use Rattle.index.proofs.Cut.{head_stops, walk_stops, walk_goes_on}
use Rattle.residence.specs.Tables.{Covers}
use Rattle.sound.specs.Stages.{EachOnce, SoundImage, Surveys}
use Rattle.sound.proofs.Stages.{all_through}

-- ---- `examine`

-- a reason that has no place has a number
numbered : (reason : Unplaced) → number_of_unplaced reason ≡ 0 → ⊥
numbered ImageTooLong e = omega arith
numbered ImageTooShort e = omega arith
numbered WrongMark e = omega arith
numbered WrongVersion e = omega arith
numbered WrongCount e = omega arith
numbered NotFilled e = omega arith
numbered WorkTooShort e = omega arith
numbered ResultTooLong e = omega arith
numbered OutputTooShort e = omega arith
numbered NoSuchPart e = omega arith
numbered NoSuchEntity e = omega arith

stops_at : (b : List ℕ) {r : Refusal} (k : ℕ) → r ≡ refusal k nowhere → k ≡ head_number b → (k ≡ 0 → ⊥) → sound_of b ≡ refused r.number (place_of r)
stops_at b zero is e some = absurd (some refl)
stops_at b (suc k) is e some = head_stops b k (sym e) ∙ sym (as_refused is)

module _ (b : List ℕ) {r : Refusal} (reason : Unplaced) (is : r ≡ refusal (number_of_unplaced reason) nowhere) where
  pub head_refused : number_of_unplaced reason ≡ head_number b → sound_of b ≡ refused r.number (place_of r)
  head_refused e = stops_at b (number_of_unplaced reason) is e (numbered reason)

  pub walk_refused : 0 ≡ head_number b → walk_parts (u8_at b 5) (drop 8 b) ≡ none → reason ≡ NotFilled → sound_of b ≡ refused r.number (place_of r)
  walk_refused head e told = walk_stops b (sym head) e ∙ sym (as_refused (is ∙ ap (λ (why : Unplaced). refusal (number_of_unplaced why) nowhere) told))

module _ {b offs starts keys : List ℕ} {rows : ℕ} (whole : Whole b offs starts keys rows) where
  pub index_of : {n : ℕ} → n ≡ u8_at b 5 → Indexed b offs starts n
  index_of count = subst (Indexed b offs starts) (sym count) whole.index

module _ {b offs starts keys : List ℕ} {rows : ℕ} (whole : Whole b offs starts keys rows) (head : 0 ≡ head_number b) where
  by_rules : sound_of b ≡ rules_of (set_in b)
  by_rules = walk_goes_on b (set_in b) (sym head) whole.walk

  pub rules_refused : {r : Refusal} → rules_of (set_in b) ≡ refused r.number (place_of r) → sound_of b ≡ refused r.number (place_of r)
  rules_refused e = by_rules ∙ e

  pub rules_sound : {n : ℕ} {covered ord : List ℕ} {entities : ℕ} → Indexed b offs starts n
      → PassedThrough Owner (set_in b) × Covers b starts covered × EachOnce (set_in b) starts keys ord n entities → SoundImage b offs starts keys covered ord n rows entities
  rules_sound index all =
      let passed = all_through (set_in b) all.0 in
      record {
        survey = record {
          index = record { sound = by_rules ∙ rules_ok (set_in b) passed; indexed = index; passed = passed };
          named = whole.names;
          total = whole.rows;
        };
        covers = all.1;
        listed = all.2;
      }

-- ---- `survey`

pub rows_few : {b offs starts keys covered ord : List ℕ} {n rows entities : ℕ} → SoundImage b offs starts keys covered ord n rows entities → rows ≤ max_rows
rows_few image = let survey = image.survey in omega (arith, survey.total, survey.index.indexed.total, survey.index.indexed.total_few)

-- ---- `check`

abbrev numbers : Outcome Set → Outcome Checked
numbers o = o >>= (λ S. accepted (record { parts = length S; rows = row_total S }))

pub surveyed_checks : (b offs starts keys : List ℕ) (x : CheckAnswer) → Surveys b offs starts keys x → Checks b x
unfolding check_of ◌>>=◌
surveyed_checks b offs starts keys (Err r) e = record { answer = sym (ap numbers e) }
surveyed_checks b offs starts keys (Ok s) survey = record {
  answer =
      sym
      (ap numbers survey.index.sound
      ∙ ap₂ (λ (parts rows : ℕ). accepted (record { parts = parts; rows = rows })) survey.index.indexed.count (sym survey.total));
}
