-- Rule 10 off the tables of an image: what its judgement wants, and the tests that it is made of. Assumes nothing.
use Rattle.std.specs.Prelude.{ℕ, zero, suc, ◌+◌, ◌-◌, ◌*◌, ◌≤◌, ◌<◌, ◌≡◌, Bool, true, not, ◌&&◌, ◌||◌, List, [], map, length, get_or, T, eqb}
use Rattle.laws.specs.Lists.{In, every, up_to, member, same}
use Rattle.field.specs.Bytes.{u32_at, longs}
use Rattle.part_set.specs.Masks.{has, others}
use Rattle.paper.specs.Image.{Row, Set, row_length_of, row_at}
use Rattle.paper.specs.Mesh.{same_ent, ent_of}
use Rattle.paper.specs.declared.Rule.TheVariants.{Copies}
use Rattle.paper.specs.Sound.{name_of_row, twin_agrees}
use Rattle.index.specs.Index.{row_from, set_in, Indexed, Named}
use Rattle.index.specs.Find.{Searchable}
use Rattle.demands.specs.Passed.{PassedAhead}

-- each twin that row s of part p names agrees: the first half of rule 10
unfoldable pub twins_agree : Set → ℕ → ℕ → Bool
twins_agree S p s = every (twin_agrees S p s) (others (row_at S p s).mask p)

abbrev pub TwinsPassed : Set → Type 0
TwinsPassed S = (p s : ℕ) → s < length (get_or S p []) → T (twins_agree S p s)

-- the tables are those of the image, and its rows pass what is judged before the copies
pub record Ready (b offs starts keys : List ℕ) : Type 0 where
  pub index : Indexed b offs starts (length (set_in b))
  pub names : Named b starts keys
  pub passed : PassedAhead Copies (set_in b)

-- row s of part p is there, and q is another part of its residence set
pub record TwinAsked (b : List ℕ) (p s q : ℕ) : Type 0 where
  pub there : s < length (get_or (set_in b) p [])
  pub other : In q (others (row_at (set_in b) p s).mask p)

-- ---- the tests of two rows

-- kind, value, residence set and owner are equal
unfoldable pub are_same_fields : Row → Row → Bool
are_same_fields r t = eqb r.kind t.kind && eqb r.value t.value && eqb r.mask t.mask && eqb r.owner t.owner

-- the answer to whether two rows have one name; then their dimensions are equal too
pub record NameCompared (r t : Row) (answer : Bool) : Type 0 where
  pub is : answer ≡ eqb (name_of_row r) (name_of_row t)
  pub dims : answer ≡ true → r.dim ≡ t.dim

-- the key of the row that slot i of the body at o names, in the part whose first row is row `first` of the image
abbrev pub face_key : List ℕ → List ℕ → ℕ → ℕ → ℕ → ℕ
face_key b keys first o i = get_or keys (first + u32_at b (o + 24 + 4 * i)) 0

-- the d + 1 slots of the bodies at o and o' name rows of equal keys
unfoldable pub faces_agree : List ℕ → List ℕ → ℕ → ℕ → ℕ → ℕ → ℕ → Bool
faces_agree b keys first o first' o' d = every (λ i. eqb (face_key b keys first o i) (face_key b keys first' o' i)) (up_to (d + 1))

-- the coordinates of two vertices, or the boundaries of two entities of dimension d, agree
unfoldable pub shapes_agree : List ℕ → List ℕ → ℕ → ℕ → ℕ → ℕ → ℕ → Bool
shapes_agree b keys first o first' o' zero = same (longs 3 (row_from b o).body) (longs 3 (row_from b o').body)
shapes_agree b keys first o first' o' (suc d) = faces_agree b keys first o first' o' (suc d)

-- a row's first 48 bytes are there, and the rows that its d + 1 slots name have keys
pub record ShapeThere (b keys : List ℕ) (first o d : ℕ) : Type 0 where
  pub room : o + 48 ≤ length b
  pub few : d ≤ 3
  pub faces : (i : ℕ) → 0 < d → i ≤ d → first + u32_at b (o + 24 + 4 * i) < length keys

-- rows s of part p and t of part q hold the same entity, with an equal residence set and owner
unfoldable pub is_same_copy : Set → ℕ → ℕ → ℕ → ℕ → Bool
is_same_copy S p s q t =
    let r = row_at S p s in
    let twin = row_at S q t in
    same_ent (ent_of (get_or S p []) r) (ent_of (get_or S q []) twin) && eqb r.mask twin.mask && eqb r.owner twin.owner

-- the row at o is there with its remote slots, and names one in the part `other`, which is not its own
pub record RemoteThere (b : List ℕ) (o own other : ℕ) : Type 0 where
  pub room : o + row_length_of (row_from b o).mask ≤ length b
  pub own_lt : own < 64
  pub other_lt : other < 64
  pub own_in : has (row_from b o).mask own ≡ true
  pub other_in : has (row_from b o).mask other ≡ true
  pub differ : other ≡ own → ⊥

-- ---- the parts that hold a name

-- the keys of the rows of part q
unfoldable pub part_keys : List ℕ → List ℕ → ℕ → List ℕ
part_keys keys starts q = map (λ s. get_or keys (get_or starts q 0 + s) 0) (up_to (get_or starts (q + 1) 0 - get_or starts q 0))

-- each of the n parts that holds the name is in the set m
unfoldable pub holders_all_listed : List ℕ → List ℕ → ℕ → ℕ → ℕ → Bool
holders_all_listed keys starts n m name = every (λ q. not (member name (part_keys keys starts q)) || has m q) (up_to n)

-- there are n parts, and each can be searched
pub record AllSearchable (keys starts : List ℕ) (n : ℕ) : Type 0 where
  pub few : n ≤ 64
  pub each : (q : ℕ) → q < n → Searchable keys starts q
