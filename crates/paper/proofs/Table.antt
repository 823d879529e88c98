-- What the tables of cases ask of the definitions. Every answer is a list of numbers: 0 and the result numbers, or a refusal's number and
-- place. A table is right where no case of it is wrong. Where it fails and is too long for antt to print which case, halve it by `take`.
-- Assumes nothing.
use Prim.Native.Nat.{ℕ, suc}
use Prim.Native.Char.{code}
use Prim.Native.String as string
use Prim.Native.String.{String}
use mathlib.Core.Bool.{cond}
use mathlib.Core.List.{List, [], ◌∷◌, ◌++◌}
use mathlib.Core.Option.{none, some}
use lib.Ieee.{binary64, to_bits}
use lib.ListN.{length, set}
use Rattle.laws.specs.Lists.{same}
use Rattle.field.specs.Bytes.{bytes_of}
use Rattle.paper.specs.declared.Point.{Point}
use Rattle.paper.specs.Outcome.{Outcome, refused, accepted}
use Rattle.paper.specs.Sound.{check_of, max_image}
use Rattle.paper.specs.Move.{Migrated, migrate_of}
use Rattle.paper.specs.Lookup.{lookup_of}
use Rattle.paper.specs.Box.{box_asked}

-- ---- questions

-- check: part count and total of rows
abbrev pub check : List ℕ → List ℕ
check b = elim (check_of b) [ refused k p ↦ k ∷ p.major ∷ p.minor ∷ [] | accepted r ↦ 0 ∷ r.parts ∷ r.rows ∷ [] ]

-- an entry of a list: dimension and number of the entity, destination
abbrev pub send : ℕ → ℕ → ℕ → List ℕ
send d k p = bytes_of 4 k ++ (d ∷ p ∷ 0 ∷ 0 ∷ [])

-- migration with buffers that are long enough
abbrev pub move : List ℕ → List ℕ → Outcome Migrated
move b l = migrate_of b l max_image max_image

-- migration: the image's length, its total of rows, the moved count
abbrev pub numbers : Outcome Migrated → List ℕ
numbers (refused k p) = k ∷ p.major ∷ p.minor ∷ []
numbers (accepted m) = 0 ∷ length m.image ∷ m.rows ∷ m.objects_moved ∷ []

-- migration: the image; none where it is refused
abbrev pub image : Outcome Migrated → List ℕ
image (refused k p) = []
image (accepted m) = m.image

-- lookup: residence set and owner
abbrev pub lookup : List ℕ → ℕ → ℕ → List ℕ
lookup b d k = elim (lookup_of b d k) [ refused n p ↦ n ∷ p.major ∷ p.minor ∷ [] | accepted r ↦ 0 ∷ r.residence ∷ r.owner ∷ [] ]

-- box: nothing more for "no vertex", or the bits of its six numbers
abbrev pub bits_of : Point → List ℕ
bits_of p = to_bits binary64 p.x ∷ to_bits binary64 p.y ∷ to_bits binary64 p.z ∷ []

abbrev pub box : List ℕ → ℕ → List ℕ
box b q =
    elim (box_asked b q) [
      | refused n p ↦ n ∷ p.major ∷ p.minor ∷ []
      | accepted r ↦ 0 ∷ elim r [ none ↦ [] | some x ↦ bits_of x.least ++ bits_of x.greatest ]
    ]

-- ---- images with other bytes

-- b with the bytes xs from place i on
abbrev pub put : List ℕ → ℕ → List ℕ → List ℕ
put b i [] = b
put b i (x ∷ xs) = put (set b i x) (suc i) xs

-- a text as bytes of ASCII
abbrev pub ascii : String → List ℕ
ascii string.[] = []
ascii (string.◌∷◌ c s) = code c ∷ ascii s

-- lines of text, a line feed after each
abbrev pub text : List String → List ℕ
text [] = []
text (l ∷ ls) = ascii l ++ (10 ∷ text ls)

-- ---- tables

-- what the definitions give, and what the document says
abbrev pub Cases : Type 0
Cases = List (List ℕ × List ℕ)

-- the places, from i, of the cases in which the two differ
abbrev pub wrong : ℕ → Cases → List ℕ
wrong i [] = []
wrong i (c ∷ cs) = let r = wrong (suc i) cs in cond (same c.0 c.1) r (i ∷ r)
