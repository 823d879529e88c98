-- The check in stages: what the rules up to one say of an image, and what they leave in the tables. Assumes nothing.
use Rattle.std.specs.Prelude.{ℕ, ◌≡◌, List, [], Result, Ok, Err}
use Rattle.paper.specs.declared.Rule.{Rule}
use Rattle.paper.specs.declared.Rule.TheVariants.{Copies, Owner}
use Rattle.paper.specs.declared.Refusal.{Refusal}
use Rattle.paper.specs.Given.{CheckAnswer}
use Rattle.paper.specs.Outcome.{place_of, refused, accepted}
use Rattle.paper.specs.Image.{Set, row_total}
use Rattle.paper.specs.Sound.{rules_of, sound_of}
use Rattle.demands.specs.Passed.{PassedThrough, AllPassed}
use Rattle.index.specs.Index.{set_in, Indexed, Named}
use Rattle.residence.specs.Tables.{Covers}
use Rattle.entities.specs.LowestCopies.{Entities}
use Rattle.sound.specs.declared.Examined.{Examined}

-- the rules up to one stop the check as the paper's do, or every row passes them
abbrev pub UpTo : Rule → Set → Result (Unit {0}) Refusal → Type 0
UpTo rule S (Err r) = rules_of S ≡ refused r.number (place_of r)
UpTo rule S (Ok _) = PassedThrough rule S

-- ord lists the entities in the order of their names, each once, by its lowest copy
abbrev pub EachOnce : Set → List ℕ → List ℕ → List ℕ → ℕ → ℕ → Type 0
EachOnce S starts keys ord n count = Entities S starts keys ord [] ord [] n (Ok count)

-- the rules up to that of the copies, and the entities
abbrev pub CopiesJudged : Set → List ℕ → List ℕ → List ℕ → ℕ → Result ℕ Refusal → Type 0
CopiesJudged S starts keys ord n (Err r) = rules_of S ≡ refused r.number (place_of r)
CopiesJudged S starts keys ord n (Ok entities) = PassedThrough Copies S × EachOnce S starts keys ord n entities

-- all rules, and the rows that are covered
abbrev pub HomesJudged : List ℕ → List ℕ → List ℕ → Result (Unit {0}) Refusal → Type 0
HomesJudged b starts covered (Err r) = rules_of (set_in b) ≡ refused r.number (place_of r)
HomesJudged b starts covered (Ok _) = PassedThrough Owner (set_in b) × Covers b starts covered

-- and the entities
abbrev pub AllJudged : List ℕ → List ℕ → List ℕ → List ℕ → List ℕ → ℕ → Result ℕ Refusal → Type 0
AllJudged b starts keys covered ord n (Err r) = rules_of (set_in b) ≡ refused r.number (place_of r)
AllJudged b starts keys covered ord n (Ok entities) = PassedThrough Owner (set_in b) × Covers b starts covered × EachOnce (set_in b) starts keys ord n entities

-- an image that is sound, so that every row passes every rule, with its index
pub record SoundIndex (b offs starts : List ℕ) (n : ℕ) : Type 0 where
  pub sound : sound_of b ≡ accepted (set_in b)
  pub indexed : Indexed b offs starts n
  pub passed : AllPassed (set_in b)

-- and with the names and the number of its rows
pub record SoundSurvey (b offs starts keys : List ℕ) (n rows : ℕ) : Type 0 where
  pub index : SoundIndex b offs starts n
  pub named : Named b starts keys
  pub total : rows ≡ row_total (set_in b)

-- and with its other tables
pub record SoundImage (b offs starts keys covered ord : List ℕ) (n rows entities : ℕ) : Type 0 where
  pub survey : SoundSurvey b offs starts keys n rows
  pub covers : Covers b starts covered
  pub listed : EachOnce (set_in b) starts keys ord n entities

-- the check of any image, and its tables
abbrev pub Examines : List ℕ → List ℕ → List ℕ → List ℕ → List ℕ → List ℕ → Result Examined Refusal → Type 0
Examines b offs starts keys covered ord (Err r) = sound_of b ≡ refused r.number (place_of r)
Examines b offs starts keys covered ord (Ok x) = SoundImage b offs starts keys covered ord x.parts x.rows x.entities

-- and with its index alone
abbrev pub Surveys : List ℕ → List ℕ → List ℕ → List ℕ → CheckAnswer → Type 0
Surveys b offs starts keys (Err r) = sound_of b ≡ refused r.number (place_of r)
Surveys b offs starts keys (Ok s) = SoundSurvey b offs starts keys s.parts s.rows
