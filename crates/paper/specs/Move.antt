-- Migration (document 01, "The move"): the list, what it does to the placement, the refusals 13 to 19, and both buffers afterwards.
-- Sizing is all of it but the output: it gives 1 to 18 and the result numbers. Assumes nothing.
use Rattle.std.specs.Prelude.{ℕ, zero, suc, ◌+◌, ◌*◌, ◌/◌, Bool, true, not, ◌&&◌, cond, List, [], ◌∷◌, ◌++◌, length, drop, replicate, leb, ltb, eqb}
use Rattle.std.proofs.Math.Option.{Option, none, some, get_or}
use Rattle.paper.specs.Sound
use Rattle.paper.specs.Placement
use Rattle.laws.specs.Lists.{flat, up_to, first_bad}
use Rattle.field.specs.Bytes.{u8_at, u16_at, u32_at}
use Rattle.paper.specs.declared.EntryRule.{EntryRule}
use Rattle.paper.specs.declared.EntryRule.TheVariants.{Whole, Destination, Known, Object}
use Rattle.paper.specs.Outcome.{Outcome, at_entry, refused, accepted, ◌>>=◌, ◌>>◌, must, unless, in_turn}
use Rattle.paper.specs.Image.{Set, row_total}
use Rattle.paper.specs.Mesh.{name_of, parts_of, mesh_of, is_object, holds}
use Rattle.paper.specs.Sound.{max_image, sound_of}
use Rattle.paper.specs.Placement.{Placement, spread, rows_for, place_in, places_of, image_for}

-- ---- the list: entry i is the eight bytes from 8 i

abbrev pub entry_name : List ℕ → ℕ → ℕ
entry_name l i = name_of (u8_at l (8 * i + 4)) (u32_at l (8 * i))

abbrev pub entry_part : List ℕ → ℕ → ℕ
entry_part l i = u8_at l (8 * i + 5)

-- whole entries, and entries where left-over bytes count as the entry after the last whole one
abbrev pub whole_entries : List ℕ → ℕ
whole_entries l = length l / 8

abbrev pub all_entries : List ℕ → ℕ
all_entries l = (length l + 7) / 8

-- entry i comes strictly after the one before it, by dimension, then number
unfoldable pub ascends : List ℕ → ℕ → Bool
ascends l zero = true
ascends l (suc i) = ltb (entry_name l i) (entry_name l (suc i))

-- whole, its two zeros zero, dimension at most 3, and after the entry before it
unfoldable pub entry_fitting : List ℕ → ℕ → Bool
entry_fitting l i = leb (8 * i + 8) (length l) && eqb (u16_at l (8 * i + 6)) 0 && leb (u8_at l (8 * i + 4)) 3 && ascends l i

-- ---- the rules of a list

-- entry i keeps the rule
unfoldable pub entry_judged : EntryRule → Set → List ℕ → ℕ → Bool
entry_judged Whole S l i = entry_fitting l i
entry_judged Destination S l i = ltb (entry_part l i) (length S)
entry_judged Known S l i = holds (flat (parts_of S)) (entry_name l i)
entry_judged Object S l i = is_object (flat (parts_of S)) (entry_name l i)

-- the rules in the order in which they are judged, the refusal of each, and its rank, which is its place in the list
abbrev pub entry_rules : List EntryRule
entry_rules = Whole ∷ Destination ∷ Known ∷ Object ∷ []

abbrev pub number_of_entry : EntryRule → ℕ
number_of_entry Whole = 13
number_of_entry Destination = 14
number_of_entry Known = 15
number_of_entry Object = 16

abbrev pub entry_rank : EntryRule → ℕ
entry_rank Whole = 0
entry_rank Destination = 1
entry_rank Known = 2
entry_rank Object = 3

-- the rule's refusal at the first entry that breaks it
unfoldable pub entries_must : Set → List ℕ → EntryRule → Outcome (Unit {0})
entries_must S l rule =
    unless (number_of_entry rule) (elim (first_bad (entry_judged rule S l) (up_to (all_entries l))) [ none ↦ none | some i ↦ some (at_entry i) ])

-- ---- what it does to the placement

-- the destination that the list names for k
unfoldable pub dest_of : List ℕ → ℕ → Option ℕ
dest_of l k = elim (first_bad (λ i. not (eqb (entry_name l i) k)) (up_to (whole_entries l))) [ none ↦ none | some i ↦ some (entry_part l i) ]

-- each object takes its listed destination or stays
unfoldable pub moved : List ℕ → Placement → Placement
moved l place k = get_or (dest_of l k) (place k)

-- ---- migration

pub record Migrated : Type 0 where
  pub image : List ℕ
  pub rows : ℕ
  pub objects_moved : ℕ

-- at how many places two lists differ
unfoldable pub changes : List ℕ → List ℕ → ℕ
changes [] ys = 0
changes (x ∷ xs) [] = 0
changes (x ∷ xs) (y ∷ ys) = cond (eqb x y) 0 1 + changes xs ys

-- what a sound set becomes under a list that names objects of it: the same mesh, each object at its new place, the image made anew; the
-- moved count is the number of objects whose part changed
unfoldable pub migrated : Set → List ℕ → Migrated
migrated S l =
    let es = mesh_of (parts_of S) in
    let old = place_in (parts_of S) in
    let new = moved l old in
    record {
      image = image_for (length S) es new;
      rows = row_total (rows_for (spread (length S) es new));
      objects_moved = changes (places_of es old) (places_of es new);
    }

-- refusals 13 to 18, for a sound set: all entries pass one number before any is judged under the next
unfoldable pub size_set : Set → List ℕ → ℕ → Outcome Migrated
size_set S l work = do
  in_turn (entries_must S l) entry_rules
  must 17 (leb (row_total S) work)
  must 18 (leb (length (migrated S l).image) max_image)
  accepted (migrated S l)

-- and 19, the last
unfoldable pub migrate_set : Set → List ℕ → ℕ → ℕ → Outcome Migrated
migrate_set S l out work = do
  m ← size_set S l work
  must 19 (leb (length m.image) out)
  accepted m

-- refusals 1 to 19, for an output buffer of `out` bytes and a working buffer of `work` words
unfoldable pub migrate_of : List ℕ → List ℕ → ℕ → ℕ → Outcome Migrated
migrate_of b l out work = do
  S ← sound_of b
  migrate_set S l out work

-- ---- the answer's numbers, and both buffers afterwards

-- the image's length, its total of rows, and the number of objects whose part changed
pub record Sizes : Type 0 where
  pub length : ℕ
  pub rows : ℕ
  pub moved : ℕ

unfoldable pub sizes_of : Migrated → Sizes
sizes_of m = record { length = length m.image; rows = m.rows; moved = m.objects_moved }

-- the output buffer: the image and what stood behind it; on a refusal as it came
unfoldable pub out_after : Outcome Migrated → List ℕ → List ℕ
out_after (refused k p) out = out
out_after (accepted m) out = m.image ++ drop (length m.image) out

-- the working buffer: all of it zero on every return
unfoldable pub work_after : List ℕ → List ℕ
work_after work = replicate (length work) 0

-- opens this module and those below it, for what is to compute
unfoldable pub computes : Unit {0}
unfolding Sound.computes Placement.computes ascends entry_fitting entry_judged entries_must dest_of moved changes migrated size_set migrate_set migrate_of sizes_of out_after work_after
computes = tt
