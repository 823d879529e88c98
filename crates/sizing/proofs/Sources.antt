-- A sound image with its tables: its entities in order, its catalog, and that its rows can be read. Assumes nothing.
use Prim.Native.Nat.{ℕ, ◌+◌, ◌≤◌, ◌<◌}
use native.Mathlib.Omega.{arith}
use mathlib.Core.Path.{◌≡◌, sym, subst}
use mathlib.Core.List.{List}
use lib.ListN.{length}
use lib.Dec.{T}
use lib.Pow.{are_bytes}
use Rattle.paper.specs.Outcome.{accepted}
use Rattle.paper.specs.Sound.{sound_of}
use Rattle.demands.proofs.Sound.Facts.{Sound, sound_inv}
use Rattle.index.specs.Index.{set_in, max_rows, Indexed, Named}
use Rattle.paper.specs.declared.Rule.TheVariants.{Fields, Boundary}
use Rattle.paper.specs.Sound.{judged}
use Rattle.demands.specs.Passed.{Passed}
use Rattle.entities.proofs.MeshOrder.{entities_count, entity_at}
use Rattle.sound.specs.Stages.{SoundIndex, SoundImage}
use Rattle.moves.proofs.FromTables.{catalog}
use Rattle.plan.specs.Plan.{LowestRow, Ordered, Sourced}
use Rattle.marks.specs.Closures.{Readable}
use Rattle.sizing.specs.Steps.{Surveyed}

pub sound_facts : (b : List ℕ) → T (are_bytes b) → sound_of b ≡ accepted (set_in b) → Sound (set_in b)
sound_facts b bytes e = (sound_inv b (set_in b) bytes e).0

module _ {b offs starts keys covered ord : List ℕ} {n rows m : ℕ} (image : SoundImage b offs starts keys covered ord n rows m) (bytes : T (are_bytes b))
    (room : max_rows + 1 ≤ length ord) where
  index : SoundIndex b offs starts n
  index = image.survey.index

  named : Named b starts keys
  named = image.survey.named

  facts : Sound (set_in b)
  facts = sound_facts b bytes index.sound

  lowest_row : (i : ℕ) → i < m → LowestRow (set_in b) starts ord i
  lowest_row i h =
      let w = entity_at index.indexed named facts.copied image.listed i h in
      record { part = w.part; slot = w.slot; within = w.within; there = w.there; low = w.low; is = w.is; entity = w.entity }

  ordered : Ordered b starts ord m
  ordered = record {
    room = room;
    count = entities_count index.indexed named facts.copied image.listed;
    few = omega (arith, image.listed.few, index.indexed.total_few);
    row = lowest_row;
  }

  pub surveyed : Surveyed b offs starts keys covered ord n m
  surveyed = record {
    source = record { sound = index.sound; indexed = index.indexed; ordered = ordered };
    named = named;
    covers = image.covers;
    catalog = catalog index.indexed named facts.copied facts.residence image.covers image.listed;
  }

-- the rows keep to their layout and name rows of their parts
module _ {b offs starts ord : List ℕ} {n m : ℕ} (source : Sourced b offs starts ord n m) (bytes : T (are_bytes b)) where
  fields_pass : Passed Fields (set_in b)
  unfolding judged
  fields_pass = (sound_facts b bytes source.sound).copied.fields

  boundary_pass : Passed Boundary (set_in b)
  unfolding judged
  boundary_pass = (sound_facts b bytes source.sound).copied.boundary

  pub readable : Readable b offs starts
  readable = record {
    index = subst (λ (k : ℕ). Indexed b offs starts k) (sym source.indexed.count) source.indexed;
    fields = fields_pass;
    boundary = boundary_pass;
  }
