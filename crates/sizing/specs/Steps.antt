-- What each step of sizing asks, and what it leaves. Assumes nothing: these are definitions.
use Rattle.std.specs.Prelude.{ℕ, ◌+◌, ◌≤◌, ◌≡◌, List, length, get_or, Result, Ok, Err}
use Rattle.paper.specs.declared.Refusal.{Refusal}
use Rattle.paper.specs.Outcome.{place_of, refused}
use Rattle.paper.specs.Image.{Set, row_total}
use Rattle.paper.specs.Move.{size_set}
use Rattle.index.specs.Index.{set_in, max_rows, Named}
use Rattle.residence.specs.Tables.{Covers}
use Rattle.sound.specs.Ready.{IndexRooms}
use Rattle.moves.specs.Catalog.{Catalog}
use Rattle.demands.specs.Passed.{ListPassed}
use Rattle.plan.specs.Plan.{moved_count, Sourced, Numbered, Masked, Tallied}
use Rattle.plan.specs.declared.Source.{Source}

-- ---- the tables

-- room for the tables of the image
pub record SizingRooms (offs starts keys ord : List ℕ) : Type 0 where
  pub index : IndexRooms offs starts keys
  pub ord_room : max_rows + 1 ≤ length ord

-- room for the tables of the move: no word has a bit, no object is counted
pub record Empty (work ent counts : List ℕ) : Type 0 where
  pub blank : (g : ℕ) → get_or work g 0 ≡ 0
  pub ent_room : max_rows + 1 ≤ length ent
  pub counts_room : 64 ≤ length counts
  pub none : (q : ℕ) → get_or counts q 0 ≡ 0

-- a sound image with its tables; and the same of a source with the tables that it has not
pub record Surveyed (b offs starts keys covered ord : List ℕ) (n m : ℕ) : Type 0 where
  pub source : Sourced b offs starts ord n m
  pub named : Named b starts keys
  pub covers : Covers b starts covered
  pub catalog : Catalog (set_in b) keys ord covered m

abbrev pub SurveyedBy : Source → List ℕ → List ℕ → Type 0
SurveyedBy s keys covered = Surveyed s.tables.image.now s.tables.offs.now s.tables.starts.now keys covered s.ord.now s.tables.parts s.entities

-- ---- the list

-- the refusal that sizing gives with a working buffer of `work` words, or the list passes its rules and has its words
abbrev pub Judges : Set → List ℕ → ℕ → Result (Unit {0}) Refusal → Type 0
Judges S l work (Err r) = size_set S l work ≡ refused r.number (place_of r)
Judges S l work (Ok u) = ListPassed S l × (row_total S ≤ work)

-- ---- the move

-- a list that passes its rules, and a word for each row
pub record Movable (b l work ent counts : List ℕ) : Type 0 where
  pub passed : ListPassed (set_in b) l
  pub words : row_total (set_in b) ≤ length work
  pub empty : Empty work ent counts

-- the tables that the new image is written from, and how many objects change their part
pub record Relocated (b l starts ent masks counts : List ℕ) (moved : ℕ) : Type 0 where
  pub numbered : Numbered b starts ent
  pub masked : Masked b l masks
  pub tallied : Tallied b l counts
  pub count : moved ≡ moved_count b l
