-- A test of rows as a closure gives it: `may`, when it may be asked, and `says`, what it may answer; and the first row that fails it, as the
-- paper's place. Assumes nothing.
use Rattle.std.specs.Prelude.{ℕ, ◌<◌, ◌≡◌, Bool, true, [], length, get_or, Option, None, Some}
use Rattle.std.proofs.Math.Option as math
use Rattle.paper.specs.declared.Part.{Part}
use Rattle.paper.specs.declared.Slot.{Slot}
use Rattle.paper.specs.Outcome.{Place, at_row}
use Rattle.paper.specs.Image.{Set}
use Rattle.paper.specs.Sound.{first_fault_of}
use Rattle.demands.specs.Passed.{PassedAhead}
use Rattle.sound.specs.Ready.{Due}
use Rattle.sound.specs.Tests.{Test, tested, rule_for}

abbrev pub fault_place : Option (Part × Slot) → math.Option Place
fault_place None = math.none
fault_place (Some f) = math.some (at_row f.0.0 f.1.0)

module _ (may : Part → Slot → Type 0) (says : Part → Slot → Bool → Type 0) where
  -- it may be asked of each row where it says of those of the part before it that they pass
  pub record Askable (S : Set) : Type 0 where
    pub asked : (part : Part) (slot : Slot) → slot.0 < length (get_or S part.0 []) → ((t : Slot) → t.0 < slot.0 → says part t true) → may part slot

  -- it may be asked of each row where the rules before that of the test pass and so do the rows of the part before it, and says what the test says
  pub record Judges (test : Test) (S : Set) : Type 0 where
    pub passed : PassedAhead (rule_for test) S
    pub asked : (part : Part) (slot : Slot) → Due (tested test S) S part.0 slot.0 → may part slot
    pub told : (part : Part) (slot : Slot) (r : Bool) → slot.0 < length (get_or S part.0 []) → says part slot r → r ≡ tested test S part.0 slot.0

module _ (says : Part → Slot → Bool → Type 0) (S : Set) where
  -- what it says of each row is what ok says
  abbrev pub Tells : (ℕ → ℕ → Bool) → Type 0
  Tells ok = (part : Part) (slot : Slot) (r : Bool) → slot.0 < length (get_or S part.0 []) → says part slot r → r ≡ ok part.0 slot.0

  -- and so is the first row of which it says no
  pub record FirstFault (fault : Option (Part × Slot)) : Type 0 where
    pub place : (ok : ℕ → ℕ → Bool) → Tells ok → fault_place fault ≡ first_fault_of ok 0 S
