-- When a set is sound (document 01, under that heading): the judgement of a row under each rule, the table of the rules, the first fault by
-- part and then by slot, and the check, which is the refusal table from 1 to 12. Assumes nothing.
use Rattle.std.specs.Prelude.{ℕ, zero, suc, ◌+◌, ◌*◌, ◌^◌, Bool, true, not, ◌&&◌, ◌||◌, List, [], ◌∷◌, map, length, get_or, take, drop, leb, ltb, eqb}
use Rattle.std.proofs.Math.Option.{Option, none, some}
use Rattle.paper.specs.Outcome
use Rattle.paper.specs.Mesh
use Rattle.laws.specs.Lists.{every, some?, keep, flat, pairwise, up_to, member, index_of, same, first_bad}
use Rattle.field.specs.Bytes.{u8_at, u16_at, longs, finite}
use Rattle.part_set.specs.Masks.{has, others, count, parts_in, mask_of}
use Rattle.paper.specs.declared.Rule.{Rule}
use Rattle.paper.specs.declared.Rule.TheVariants.{Fields, Order, Boundary, Copies, Residence, Owner}
use Rattle.paper.specs.Outcome.{Outcome, Place, at_row, accepted, ◌>>=◌, ◌>>◌, must, unless, get, in_turn}
use Rattle.paper.specs.Image.{Row, Set, no_row, walk_parts, row_at, row_total}
use Rattle.paper.specs.Mesh.{name_of, same_ent, slots_of, shape_of, ent_of, parts_of, bounds, simplex, owner_among}

-- ---- 1 to 6: the image as a set

abbrev pub max_image : ℕ
max_image = 1048576

-- the mark `DMP`
unfoldable pub marked : List ℕ → Bool
marked b = same (take 3 b) (68 ∷ 77 ∷ 80 ∷ [])

-- 1 to 64 parts, and two zeros
unfoldable pub parts_counted : List ℕ → Bool
parts_counted b = ltb 0 (u8_at b 5) && leb (u8_at b 5) 64 && eqb (u16_at b 6) 0

-- the set that an image holds: refusals 1 to 6
unfoldable pub decode : List ℕ → Outcome Set
decode b = do
  must 1 (leb (length b) max_image)
  must 2 (leb 8 (length b))
  must 3 (marked b)
  must 4 (eqb (u16_at b 3) 1)
  must 5 (parts_counted b)
  get 6 (walk_parts (u8_at b 5) (drop 8 b))

-- ---- 7: the fields

-- kind 0 with eight zero bytes, kind 1 with any 64-bit number, kind 2 with the bits of a finite f64; other kinds are refused beside this
unfoldable pub value_fitting : ℕ → ℕ → Bool
value_fitting zero v = eqb v 0
value_fitting (suc zero) v = true
value_fitting (suc (suc k)) v = finite v

-- a vertex has three finite coordinates; any other d + 1 slots, then zeros
unfoldable pub body_fitting : ℕ → List ℕ → Bool
body_fitting zero body = every finite (longs 3 body)
body_fitting (suc d) body = every (eqb 0) (drop (4 * (d + 2)) body)

-- dimension, owner, kind, the zero byte, the set's bits all name parts, own bit there, value, body
unfoldable pub fields_fit : ℕ → ℕ → Row → Bool
fields_fit n p r =
    leb r.dim 3 && ltb r.owner n && leb r.kind 2 && eqb r.pad 0 && ltb r.mask (2 ^ n) && has r.mask p
    && value_fitting r.kind r.value && body_fitting r.dim r.body

-- ---- 8: the order

abbrev pub name_of_row : Row → ℕ
name_of_row r = name_of r.dim r.number

-- row s comes after the row before it: of two out of order the later is at fault
unfoldable pub ordered : List Row → ℕ → Bool
ordered rows zero = true
ordered rows (suc s) = ltb (name_of_row (get_or rows s no_row)) (name_of_row (get_or rows (suc s) no_row))

-- ---- 9: the boundary

-- names d + 1 rows of its own part, of the dimension below, in strictly ascending slots; a vertex names none
unfoldable pub slots_stand : List Row → Row → Bool
slots_stand rows r =
    let fs = slots_of r.dim r.body in
    every (λ f. ltb f (length rows) && eqb (suc (get_or rows f no_row).dim) r.dim) fs && pairwise ltb fs

-- and its boundary is that of a simplex
unfoldable pub boundary_stands : List Row → Row → Bool
boundary_stands rows r =
    slots_stand rows r && simplex (map (ent_of rows) rows) r.dim r.number (shape_of rows r.dim r.body)

-- ---- 10: the copies

-- the slot that the row r of part p names in part q
unfoldable pub remote_slot_of : Row → ℕ → ℕ → ℕ
remote_slot_of r p q = get_or r.slots (index_of q (others r.mask p)) 0

-- the remote slot in q holds the same entity, with an equal residence set and owner, and names this slot back
unfoldable pub twin_agrees : Set → ℕ → ℕ → ℕ → Bool
twin_agrees S p s q =
    let r = row_at S p s in
    let t = remote_slot_of r p q in
    let twin = row_at S q t in
    ltb t (length (get_or S q [])) && same_ent (ent_of (get_or S p []) r) (ent_of (get_or S q []) twin)
    && eqb r.mask twin.mask && eqb r.owner twin.owner && eqb (remote_slot_of twin q p) s

-- each twin agrees, and every part that holds the entity is in the set
unfoldable pub copies_agree : Set → ℕ → ℕ → Bool
copies_agree S p s =
    let r = row_at S p s in
    every (twin_agrees S p s) (others r.mask p)
    && every (λ q. not (member (name_of_row r) (map name_of_row (get_or S q []))) || has r.mask q) (up_to (length S))

-- ---- 11: the residence

-- the rows of all parts that have the entity k on their boundary
unfoldable pub rows_above : Set → ℕ → List Row
rows_above S k = flat (map (λ rows. keep (λ r. bounds k (ent_of rows r)) rows) S)

-- an object resides in one part, any other entity in the union of the sets of what it bounds
unfoldable pub residence : ℕ → ℕ → List Row → Bool
residence n m [] = eqb (count m) 1
residence n m (r ∷ rs) = eqb m (mask_of n (λ q. some? (λ a. has a.mask q) (r ∷ rs)))

unfoldable pub resides_well : Set → ℕ → ℕ → Bool
resides_well S p s = residence (length S) (row_at S p s).mask (rows_above S (name_of_row (row_at S p s)))

-- ---- 12: the owner

-- of the residence parts, the one with fewest partition objects; of equals, the smallest number
unfoldable pub owned_well : Set → ℕ → ℕ → Bool
owned_well S p s = eqb (row_at S p s).owner (owner_among (parts_of S) (parts_in (row_at S p s).mask))

-- ---- the rules

-- row s of part p keeps the rule
unfoldable pub judged : Rule → Set → ℕ → ℕ → Bool
judged Fields S p s = fields_fit (length S) p (row_at S p s)
judged Order S p s = ordered (get_or S p []) s
judged Boundary S p s = boundary_stands (get_or S p []) (row_at S p s)
judged Copies S p s = copies_agree S p s
judged Residence S p s = resides_well S p s
judged Owner S p s = owned_well S p s

-- The rules in the order in which they are judged, and what a refusal under each says. A rule's rank is its place in the list, and it is the
-- rank that orders the rules, not the number: proofs/Ranks.antt.
abbrev pub rules : List Rule
rules = Fields ∷ Order ∷ Boundary ∷ Copies ∷ Residence ∷ Owner ∷ []

abbrev pub number_of : Rule → ℕ
number_of Fields = 7
number_of Order = 8
number_of Boundary = 9
number_of Copies = 10
number_of Residence = 11
number_of Owner = 12

abbrev pub rank_of : Rule → ℕ
rank_of Fields = 0
rank_of Order = 1
rank_of Boundary = 2
rank_of Copies = 3
rank_of Residence = 4
rank_of Owner = 5

-- ---- the check

-- the first row, by part and then by slot, that fails
unfoldable pub first_fault_of : (ℕ → ℕ → Bool) → ℕ → Set → Option Place
first_fault_of ok p [] = none
first_fault_of ok p (rows ∷ ps) =
    let r = first_fault_of ok (suc p) ps in
    elim (first_bad (ok p) (up_to (length rows))) [ none ↦ r | some s ↦ some (at_row p s) ]

-- the rule's refusal at the first row that breaks it
unfoldable pub rows_must : Set → Rule → Outcome (Unit {0})
rows_must S rule = unless (number_of rule) (first_fault_of (judged rule S) 0 S)

-- the set, if its rows keep the rules
unfoldable pub rules_of : Set → Outcome Set
rules_of S = do
  in_turn (rows_must S) rules
  accepted S

-- the set that an image holds, if it is sound: refusals 1 to 12
unfoldable pub sound_of : List ℕ → Outcome Set
sound_of b = do
  S ← decode b
  rules_of S

-- what check gives: the part count and the total of rows
pub record Checked : Type 0 where
  pub parts : ℕ
  pub rows : ℕ

unfoldable pub check_of : List ℕ → Outcome Checked
check_of b = do
  S ← sound_of b
  accepted (record { parts = length S; rows = row_total S })

-- opens this module and those below it, for what is to compute
unfoldable pub computes : Unit {0}
unfolding Outcome.computes Mesh.computes marked parts_counted decode value_fitting body_fitting fields_fit ordered slots_stand boundary_stands remote_slot_of twin_agrees copies_agree rows_above residence resides_well owned_well judged first_fault_of rows_must rules_of sound_of check_of
computes = tt
