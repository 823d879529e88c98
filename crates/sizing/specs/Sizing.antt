-- What sizing answers: refusals 1 to 18, or all numbers of the answer and the tables that the image is written from. Assumes nothing.
use Rattle.std.specs.Prelude.{ℕ, ◌≡◌, List, Result, Ok, Err}
use Rattle.paper.specs.Outcome.{Outcome, refused, accepted, ◌>>=◌}
use Rattle.paper.specs.Sound.{sound_of}
use Rattle.paper.specs.Move.{Migrated, migrated, size_set, sizes_of}
use Rattle.paper.specs.Outcome.{place_of}
use Rattle.index.specs.Index.{set_in}
use Rattle.plan.specs.Plan.{Prepared}
use Rattle.paper.specs.declared.Refusal.{Refusal}
use Rattle.sizing.specs.declared.Fits.{Fits}

-- the paper's sizing: all of a migration but its output
abbrev pub size_of : List ℕ → List ℕ → ℕ → Outcome Migrated
size_of b l work = sound_of b >>= (λ S. size_set S l work)

-- an image and a list that pass 1 to 18, with the tables, and the numbers of the answer
pub record Sized (b l offs starts ord ent masks counts : List ℕ) (work n m bytes rows moved : ℕ) : Type 0 where
  pub passes : size_of b l work ≡ accepted (migrated (set_in b) l)
  pub numbers : sizes_of (migrated (set_in b) l) ≡ record { length = bytes; rows = rows; moved = moved }
  pub prepared : Prepared b l offs starts ord ent masks counts n m

-- sizing of any image and list, with a working buffer of `work` words
abbrev pub SizesUp : List ℕ → List ℕ → List ℕ → List ℕ → List ℕ → List ℕ → List ℕ → List ℕ → ℕ → Result Fits Refusal → Type 0
SizesUp b l offs starts ord ent masks counts work (Err r) = size_of b l work ≡ refused r.number (place_of r)
SizesUp b l offs starts ord ent masks counts work (Ok f) = Sized b l offs starts ord ent masks counts work f.parts f.entities f.bytes f.rows f.moved
