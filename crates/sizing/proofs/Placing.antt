-- Where the objects go: a list that passes puts each into a part, so every table of the move can be filled. Assumes nothing.
use Prim.Native.Nat.{ℕ, ◌+◌, ◌≤◌, ◌<◌}
use native.Mathlib.Omega.{arith}
use mathlib.Core.Path.{◌≡◌, subst}
use mathlib.Core.List.{List, []}
use lib.ListN.{length, get_or}
use lib.Dec.{T, ltb, ltb→lt}
use lib.Pow.{are_bytes}
use Rattle.laws.proofs.Members.{every_in, in_map}
use Rattle.paper.specs.Image.{row_at}
use Rattle.paper.specs.Mesh.{name, ent_of, parts_of}
use Rattle.paper.specs.Sound.{name_of_row}
use Rattle.paper.specs.Placement.{objects, place_in, places_of, WellPlaced}
use Rattle.paper.specs.Move.{entry_part, all_entries}
use Rattle.demands.proofs.Sound.Rows.{ent}
use Rattle.demands.proofs.Theorems.T1.{theorem_1}
use Rattle.demands.proofs.Theorems.Destinations.{moved_fits}
use Rattle.index.specs.Index.{set_in, max_rows}
use Rattle.paper.specs.declared.EntryRule.TheVariants.{Destination}
use Rattle.paper.specs.Move.{entry_judged}
use Rattle.demands.specs.Passed.{ListPassed}
use Rattle.marks.specs.Closures.{Placed, AllMarked}
use Rattle.plan.specs.Plan.{mesh, placing, Sourced, Destined}
use Rattle.places.specs.Sending.{Tallyable}
use Rattle.places.proofs.ObjectRows.{open_in}
use Rattle.homes.specs.Joining.{Joinable}
use Rattle.sizing.specs.Steps.{Surveyed, Movable}
use Rattle.sizing.proofs.Sources.{sound_facts, readable}

dests_pass : (b l : List ℕ) → ListPassed (set_in b) l → (i : ℕ) → i < all_entries l → T (ltb (entry_part l i) (length (set_in b)))
unfolding entry_judged
dests_pass b l passed i h = passed Destination i h

-- each object in a part, also after the move
pub well : {b offs starts ord : List ℕ} (l : List ℕ) {n m : ℕ} → Sourced b offs starts ord n m → T (are_bytes b) → ListPassed (set_in b) l → WellPlaced n (mesh b) (placing b l)
unfolding places_of
well {b} l source bytes passed =
    let fits = (theorem_1 b (set_in b) bytes source.sound).fits in
    subst (λ (k : ℕ). WellPlaced k (mesh b) (placing b l)) source.indexed.count (record {
      some_part = fits.some_part;
      few_parts = fits.few_parts;
      mesh = fits.mesh;
      placed = moved_fits (length (set_in b)) l (dests_pass b l passed) (place_in (parts_of (set_in b))) (objects (mesh b)) fits.placed;
    })

module _ {b l offs starts keys covered ord : List ℕ} {n m : ℕ} (s : Surveyed b offs starts keys covered ord n m) (bytes : T (are_bytes b)) (passed : ListPassed (set_in b) l)
    {dest : List ℕ} (destined : Destined b l starts covered dest) where
  pub tallyable : {counts : List ℕ} → 64 ≤ length counts → ((q : ℕ) → get_or counts q 0 ≡ 0) → Tallyable b l starts covered dest counts n
  tallyable room none = record {
    covers = s.covers;
    destined = destined;
    well = well l s.source bytes passed;
    room = room;
    none = λ q _. none q;
  }

  -- an object's row goes to a part
  goes : (p t : ℕ) → t < length (get_or (set_in b) p []) → get_or covered (get_or starts p 0 + t) 0 ≡ 0 → placing b l (name_of_row (row_at (set_in b) p t)) < n
  unfolding places_of ent_of row_at
  goes p t h o =
      let S = set_in b in
      let e = ent S p t in
      let i = open_in (sound_facts b bytes s.source.sound) s.covers p t h o in
      ltb→lt (placing b l (name e)) n
      (every_in (λ q. ltb q n) (places_of (mesh b) (placing b l)) (well l s.source bytes passed).placed (placing b l (name e))
      (in_map (λ o. placing b l (name o)) (objects (mesh b)) e i))

  pub marks_asked : {work : List ℕ} → get_or starts n 0 ≤ length work → Placed b offs starts covered dest work
  marks_asked {work} words =
      let e = s.source.indexed.count in
      let few = s.source.indexed.total_few in
      subst (λ (k : ℕ). get_or starts k 0 ≤ length covered → get_or starts k 0 ≤ length dest → get_or starts k 0 ≤ length work → Placed b offs starts covered dest work) e
      (λ c d w. record {
        readable = readable s.source bytes;
        room_covered = c;
        room_dest = d;
        room = w;
        parts = λ p t h o. omega (arith, destined.entry p t h o, goes p t h o, e);
      })
      (omega (arith, s.covers.room)) (omega (arith, destined.room)) words

  pub joinable : {work work' masks ent : List ℕ} → get_or starts n 0 ≤ length work → AllMarked b starts covered dest work work' → max_rows + 1 ≤ length masks → max_rows + 1 ≤ length ent
      → Joinable b l starts covered dest work' masks ent n
  joinable words marked masks_room ent_room = record {
    covers = s.covers;
    destined = destined;
    well = well l s.source bytes passed;
    marked = marked.bit;
    words = omega (arith, marked.same);
    masks_room = masks_room;
    ent_room = ent_room;
  }

-- a word for each row
pub words_there : {b l offs starts ord work ent counts : List ℕ} {n m : ℕ} → Sourced b offs starts ord n m → Movable b l work ent counts → get_or starts n 0 ≤ length work
words_there source movable = omega (arith, source.indexed.total, movable.words)
