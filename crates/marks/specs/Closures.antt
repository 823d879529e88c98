-- The closures of the objects, by slots, and the words that they mark: bit q of the word of a row. Assumes nothing.
use Rattle.std.specs.Prelude.{ℕ, zero, suc, ◌+◌, ◌≤◌, ◌<◌, ◌≡◌, Bool, ◌&&◌, ◌||◌, List, [], ◌∷◌, map, length, get_or, T, eqb}
use Rattle.laws.specs.Lists.{some?, flat, up_to, member}
use Rattle.part_set.specs.Masks.{has}
use Rattle.paper.specs.Image.{Row, no_row, row_at}
use Rattle.paper.specs.Mesh.{slots_of}
use Rattle.index.specs.Index.{set_in, Indexed}
use Rattle.paper.specs.declared.Rule.TheVariants.{Fields, Boundary}
use Rattle.demands.specs.Passed.{Passed}

-- ---- which bits

-- the slots of the closure of row s, of dimension d: itself and the closures of the rows that it names
unfoldable pub slot_closure : ℕ → List Row → ℕ → List ℕ
slot_closure zero rows s = s ∷ []
slot_closure (suc d) rows s = s ∷ flat (map (slot_closure d rows) (slots_of (suc d) (get_or rows s no_row).body))

-- bit r of row t is set where row s of dimension d is marked for part q
unfoldable pub closure_marks : List ℕ → ℕ → ℕ → ℕ → ℕ → ℕ → ℕ → Bool
closure_marks b p d s q t r = member t (slot_closure d (get_or (set_in b) p []) s) && eqb r q

-- where row o is an object: not covered
unfoldable pub object_marks : List ℕ → List ℕ → List ℕ → List ℕ → ℕ → ℕ → ℕ → ℕ → Bool
object_marks b starts covered dest p o t r =
    eqb (get_or covered (get_or starts p 0 + o) 0) 0 && closure_marks b p (row_at (set_in b) p o).dim o (get_or dest (get_or starts p 0 + o) 0) t r

-- some object of part p has row t in its closure, and goes to part r
unfoldable pub part_marks : List ℕ → List ℕ → List ℕ → List ℕ → ℕ → ℕ → ℕ → Bool
part_marks b starts covered dest p t r = some? (λ o. object_marks b starts covered dest p o t r) (up_to (length (get_or (set_in b) p [])))

-- ---- the words

-- The words of the rows of part p get the bits that hit; all others are as they were.
pub record Marked (b starts : List ℕ) (p : ℕ) (hit : ℕ → ℕ → Bool) (w w' : List ℕ) : Type 0 where
  pub same : length w' ≡ length w
  pub bit : (t r : ℕ) → t < length (get_or (set_in b) p []) → has (get_or w' (get_or starts p 0 + t) 0) r ≡ (has (get_or w (get_or starts p 0 + t) 0) r || hit t r)
  pub before : (g : ℕ) → g < get_or starts p 0 → get_or w' g 0 ≡ get_or w g 0
  pub behind : (g : ℕ) → get_or starts p 0 + length (get_or (set_in b) p []) ≤ g → get_or w' g 0 ≡ get_or w g 0

-- The words of the rows of every part, zero before, have the bits of the objects; those behind the rows are as they were.
pub record AllMarked (b starts covered dest w w' : List ℕ) : Type 0 where
  pub same : length w' ≡ length w
  pub bit : (p t r : ℕ) → t < length (get_or (set_in b) p []) → has (get_or w' (get_or starts p 0 + t) 0) r ≡ part_marks b starts covered dest p t r
  pub behind : (g : ℕ) → get_or starts (length (set_in b)) 0 ≤ g → get_or w' g 0 ≡ get_or w g 0

-- ---- what is asked

-- the rows keep to their layout and name rows of their parts
pub record Readable (b offs starts : List ℕ) : Type 0 where
  pub index : Indexed b offs starts (length (set_in b))
  pub fields : Passed Fields (set_in b)
  pub boundary : Passed Boundary (set_in b)

-- and row s of part p is there
pub record RowKnown (b offs starts : List ℕ) (p s : ℕ) : Type 0 where
  pub readable : Readable b offs starts
  pub here : s < length (get_or (set_in b) p [])

-- a row of part p that has a bit has it in all rows of its closure
abbrev pub Closed : List ℕ → List ℕ → ℕ → List ℕ → Type 0
Closed b starts p w =
    (t u r : ℕ) → t < length (get_or (set_in b) p []) → T (has (get_or w (get_or starts p 0 + t) 0) r)
    → T (member u (slot_closure (row_at (set_in b) p t).dim (get_or (set_in b) p []) t)) → T (has (get_or w (get_or starts p 0 + u) 0) r)

-- the words of the rows are zero
abbrev pub Blank : List ℕ → List ℕ → List ℕ → Type 0
Blank b starts w = (p t : ℕ) → t < length (get_or (set_in b) p []) → get_or w (get_or starts p 0 + t) 0 ≡ 0

-- row s of part p has dimension d, q is a part, each row has a word, and the words are closed
pub record Markable (b offs starts : List ℕ) (p s d q : ℕ) (w : List ℕ) : Type 0 where
  pub known : RowKnown b offs starts p s
  pub dim : (row_at (set_in b) p s).dim ≡ d
  pub part : q < 64
  pub room : get_or starts (length (set_in b)) 0 ≤ length w
  pub closed : Closed b starts p w

-- each row has an entry in the tables, and each object goes to a part
pub record Placed (b offs starts covered dest w : List ℕ) : Type 0 where
  pub readable : Readable b offs starts
  pub room_covered : get_or starts (length (set_in b)) 0 ≤ length covered
  pub room_dest : get_or starts (length (set_in b)) 0 ≤ length dest
  pub room : get_or starts (length (set_in b)) 0 ≤ length w
  pub parts : (p s : ℕ) → s < length (get_or (set_in b) p []) → get_or covered (get_or starts p 0 + s) 0 ≡ 0
      → get_or dest (get_or starts p 0 + s) 0 < length (set_in b)
