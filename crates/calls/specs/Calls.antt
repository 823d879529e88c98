-- Sequences of calls of `migrate`, as a caller makes and sees them: what each call is lent, what it answers and leaves, and the image that the
-- caller holds afterwards. The caller goes by the answers alone: it knows no mesh and no placement. Assumes nothing.
use Rattle.std.specs.Prelude.{ℕ, List, [], ◌∷◌, map, length, take, Err, Ok}
use Rattle.paper.specs.Outcome.{Outcome, refused, accepted}
use Rattle.paper.specs.Image.{Set}
use Rattle.paper.specs.Mesh.{Entity, Parts, parts_of, mesh_of}
use Rattle.paper.specs.Sound.{sound_of}
use Rattle.paper.specs.Placement.{Placement, place_in}
use Rattle.paper.specs.Move.{moved}
use Rattle.paper.specs.Promises.{Migrates}
use Rattle.demands.specs.History.{Ask}
use Rattle.paper.specs.Given.{MigrateAnswer}

-- ---- one call

-- the list and both buffers as they were lent; the answer, and both buffers as they came back
pub record Call : Type 0 where
  pub list : List ℕ
  pub out : List ℕ
  pub work : List ℕ
  pub answer : MigrateAnswer
  pub out' : List ℕ
  pub work' : List ℕ

-- the call, made on the image b, kept the promise of `migrate`: its contract, which asks for nothing
abbrev pub CallKept : List ℕ → Call → Type 0
CallKept b c = Migrates b c.list c.out c.work c.answer c.out' c.work'

-- the image that the caller holds after an answer: the bytes that the answer counts off, or after a refusal the one that it had
unfoldable pub image_left : List ℕ → MigrateAnswer → List ℕ → List ℕ
image_left b (Err r) out' = b
image_left b (Ok m) out' = take m.length out'

abbrev pub held : List ℕ → Call → List ℕ
held b c = image_left b c.answer c.out'

-- ---- any number of calls, refused ones included

-- each kept its promise, on the image held before it
unfoldable pub Run : List ℕ → List Call → Type 0
Run b [] = Unit {0}
Run b (c ∷ cs) = CallKept b c × Run (held b c) cs

-- the image held after the last call
unfoldable pub held_after : List ℕ → List Call → List ℕ
held_after b [] = b
held_after b (c ∷ cs) = held_after (held b c) cs

-- each object's part by the answers: the last destination that a call gave it which was not refused, or its first part
unfoldable pub place_left : List ℕ → Placement → MigrateAnswer → Placement
place_left l place (Err r) = place
place_left l place (Ok m) = moved l place

unfoldable pub places_after : List Call → Placement → Placement
places_after [] place = place
places_after (c ∷ cs) place = places_after cs (place_left c.list place c.answer)

-- ---- what a call asks, as demand 3's histories have it

abbrev pub ask : Call → Ask
ask c = record { list = c.list; out = length c.out; work = length c.work }

abbrev pub asks : List Call → List Ask
asks cs = map ask cs

-- ---- what an image holds, for the statements of the theorems

-- the set that a check finds; if it refuses, none
unfoldable pub set_or : Outcome Set → Set
set_or (refused k p) = []
set_or (accepted S) = S

-- the rows of each part, slot by slot
unfoldable pub set_held : List ℕ → Set
set_held b = set_or (sound_of b)

-- the entities of each part, the whole mesh, and the part of each object
abbrev pub parts_held : List ℕ → Parts
parts_held b = parts_of (set_held b)

abbrev pub mesh_held : List ℕ → List Entity
mesh_held b = mesh_of (parts_held b)

abbrev pub places_held : List ℕ → Placement
places_held b = place_in (parts_held b)
