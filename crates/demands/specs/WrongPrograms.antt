-- Programs that are wrong: those that document 01 names under "What the contracts must say", the errors under "Errors we have really made",
-- and the accident of document 00. Each is right wherever it can be: it refuses what is to be refused, and errs in one thing.
-- Assumes nothing.
use Rattle.std.specs.Prelude.{ℕ, zero, suc, false, not, ◌&&◌, List, [], ◌∷◌, ◌++◌, map, length, get_or, take, drop, replicate, eqb, leb, ltb, pos, Err, Ok}
use Rattle.std.proofs.Math.Option.{Option, none, some}
use Rattle.std.specs.Float.{fin}
use Rattle.laws.specs.Lists.{keep, flat, up_to, member}
use Rattle.field.specs.Bytes.{u8_at}
use Rattle.part_set.specs.Masks.{parts_in, others}
use Rattle.paper.specs.declared.Point.{Point}
use Rattle.paper.specs.declared.Box.{Box}
use Rattle.paper.specs.Outcome.{nowhere, refused, accepted, ◌>>=◌, ◌>>◌, answered, must}
use Rattle.paper.specs.Image.{Row, Set, image_of, row_total, walk_parts}
use Rattle.paper.specs.Mesh.{Entity, Parts, name, is_object, slot_in, closure, poorest, owner_among, parts_of, mesh_of}
use Rattle.paper.specs.Sound.{name_of_row, sound_of}
use Rattle.paper.specs.Placement.{Placement, objects, closures, spread, rows_for, place_in}
use Rattle.paper.specs.Move.{moved, whole_entries, Migrated, migrate_set}
use Rattle.paper.specs.Lookup.{lookup_of}
use Rattle.paper.specs.Box.{point_of, grow_all}
use Rattle.demands.specs.Programs.{Migrator, lookup_says, box_says, done_with, exact}
use Rattle.paper.specs.Given.{CheckAnswer, LookupAnswer, BoxAnswer, sound_answer_of}

-- ---- migrators that refuse as they should, and then give something else

-- g: from the set, the list and what would be right
abbrev pub instead : (Set → List ℕ → Migrated → Migrated) → Migrator
instead g image list out work = done_with (sound_of image >>= λ S. answered (g S list) (migrate_set S list (length out) (length work))) out work

-- other rows, and the right moved count
abbrev pub with_rows : Set → Migrated → Migrated
with_rows S m = record { image = image_of S; rows = row_total S; objects_moved = m.objects_moved }

-- other bytes, and the right numbers
abbrev pub with_image : List ℕ → Migrated → Migrated
with_image b m = record { image = b; rows = m.rows; objects_moved = m.objects_moved }

abbrev pub with_count : ℕ → Migrated → Migrated
with_count n m = record { image = m.image; rows = m.rows; objects_moved = n }

-- refuses all
abbrev pub refuses_all : Migrator
refuses_all image list out work = done_with (refused 1 nowhere) out work

-- gives one image always, as mesh A's
abbrev pub gives : List ℕ → Migrator
gives b = instead (λ S l m. with_image b m)

-- hands its input back
abbrev pub hands_back : Migrator
hands_back = instead (λ S l m. with_rows S m)

-- moves on the first call and returns its input from then on
abbrev pub moves_once : ℕ → Migrator
moves_once zero = exact
moves_once (suc calls) = hands_back

-- invents the moved count
abbrev pub invents_count : Migrator
invents_count = instead (λ S l m. with_count 7 m)

-- counts the entries of the list, also those whose destination is the present part
abbrev pub counts_entries : Migrator
counts_entries = instead (λ S l m. with_count (whole_entries l) m)

-- ---- migrators that make the rows otherwise

-- the parts that are right
abbrev pub new_parts : Set → List ℕ → Parts
new_parts S l = spread (length S) (mesh_of (parts_of S)) (moved l (place_in (parts_of S)))

-- the row with another owner, from its residence set
abbrev pub owned : (ℕ → ℕ) → Row → Row
owned owner r =
    record { number = r.number; dim = r.dim; owner = owner r.mask; kind = r.kind; pad = r.pad; mask = r.mask; value = r.value; body = r.body; slots = r.slots }

-- owners counted before the move
abbrev pub owners_before : Migrator
owners_before = instead (λ S l m. with_rows (map (map (owned (λ k. owner_among (parts_of S) (parts_in k)))) (rows_for (new_parts S l))) m)

-- only the objects of dimension 2 and 3 are counted
abbrev pub big_objects : Parts → ℕ → ℕ
big_objects ps p = length (keep (λ e. is_object (flat ps) (name e) && leb 2 e.dim) (get_or ps p []))

abbrev pub poorest_of : (ℕ → ℕ) → List ℕ → ℕ
poorest_of c [] = 0
poorest_of c (p ∷ qs) = poorest c p qs

-- counting only triangles or tetrahedra as objects
abbrev pub counts_big : Migrator
counts_big = instead (λ S l m. with_rows (map (map (owned (λ k. poorest_of (big_objects (new_parts S l)) (parts_in k)))) (rows_for (new_parts S l))) m)

-- remote slots taken from the old image
abbrev pub slots_from : Parts → ℕ → Row → Row
slots_from ps p r =
    record {
      number = r.number;
      dim = r.dim;
      owner = r.owner;
      kind = r.kind;
      pad = r.pad;
      mask = r.mask;
      value = r.value;
      body = r.body;
      slots = map (λ q. slot_in (get_or ps q []) (name_of_row r)) (others r.mask p);
    }

abbrev pub old_slots : Migrator
old_slots =
    instead (λ S l m. let rows = rows_for (new_parts S l) in with_rows (map (λ p. map (slots_from (parts_of S) p) (get_or rows p [])) (up_to (length S))) m)

-- leaves a copy behind: a part keeps what it had, beside what arrives
abbrev pub leaves_copy : Migrator
leaves_copy =
    instead (λ S l m.
    let es = mesh_of (parts_of S) in
    let old = place_in (parts_of S) in
    with_rows (rows_for (map (λ p. keep (λ e. member (name e) (closures es old p ++ closures es (moved l old) p)) es) (up_to (length S)))) m)

-- the names in the closures of the objects that leave part p
abbrev pub leaving : List Entity → Placement → Placement → ℕ → List ℕ
leaving es old new p =
    flat (map (λ e. closure e.dim es e.number) (keep (λ e. eqb (old (name e)) p && not (eqb (new (name e)) p)) (objects es)))

-- drops an edge with its triangle although another triangle of that part uses it
abbrev pub drops_edges : Migrator
drops_edges =
    instead (λ S l m.
    let es = mesh_of (parts_of S) in
    let old = place_in (parts_of S) in
    let new = moved l old in
    with_rows (rows_for (map (λ p. keep (λ e. member (name e) (closures es new p) && not (member (name e) (leaving es old new p))) es) (up_to (length S)))) m)

-- ---- migrators that leave a buffer otherwise

-- leaves its working buffer as it was lent
abbrev pub leaves_work : Migrator
leaves_work image list out work = let d = exact image list out work in record { answer = d.answer; out = d.out; work = work }

-- clears the output behind the image
abbrev pub clears_rest : Migrator
clears_rest image list out work =
    let d = exact image list out work in
    record {
      answer = d.answer;
      out = elim d.answer [ Err r ↦ d.out | Ok m ↦ take m.length d.out ++ replicate (length (drop m.length out)) 0 ];
      work = d.work;
    }

-- ---- check, lookup, box

-- says of every image whose counts and rows fill it that it is sound
abbrev pub says_sound : List ℕ → CheckAnswer
says_sound image = elim (walk_parts (u8_at image 5) (drop 8 image)) [ none ↦ sound_answer_of 0 0 | some S ↦ sound_answer_of (length S) (row_total S) ]

-- answers the lowest part as owner
abbrev pub lowest_owner : List ℕ → ℕ → ℕ → LookupAnswer
lowest_owner image dimension number =
    lookup_says (answered (λ f. record { residence = f.residence; owner = get_or (parts_in f.residence) 0 0 }) (lookup_of image dimension number))

-- a box started at zero instead of the first vertex
abbrev pub at_zero : Point
at_zero = let o = fin false 0 (pos 0) in record { x = o; y = o; z = o }

abbrev pub from_zero : List Point → Option Box
from_zero [] = none
from_zero (p ∷ ps) = some (grow_all (record { least = at_zero; greatest = at_zero }) (p ∷ ps))

abbrev pub box_from_zero : List ℕ → ℕ → BoxAnswer
box_from_zero image part =
    box_says (sound_of image >>= λ S. must 20 (ltb part (length S)) >> accepted (from_zero (map point_of (keep (λ r. eqb r.dim 0) (get_or S part [])))))
