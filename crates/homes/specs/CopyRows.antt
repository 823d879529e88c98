-- The rows of the copies of an entity, as its lowest row names them, and what is done at each. Assumes nothing: these are definitions.
use Rattle.std.specs.Prelude.{ℕ, ◌+◌, ◌*◌, ◌≤◌, ◌<◌, List, [], ◌∷◌, length, get_or, set, drop}
use Rattle.std.specs.Int.Bits.{bit_or}
use Rattle.laws.specs.Lists.{In}
use Rattle.field.specs.Bytes.{u32_at, u64_at}
use Rattle.part_set.specs.Masks.{parts_in}

-- the rows in the parts rs whose slots stand from `at` on, 4 bytes each
unfoldable pub copy_rows : List ℕ → List ℕ → ℕ → List ℕ → List ℕ
copy_rows b starts at [] = []
copy_rows b starts at (r ∷ rs) = (get_or starts r 0 + u32_at b at) ∷ copy_rows b starts (at + 4) rs

-- the other copies of the row at o, which stands in the lowest part of its set
abbrev pub other_rows : List ℕ → List ℕ → ℕ → List ℕ
other_rows b starts o = copy_rows b starts (o + 48) (drop 1 (parts_in (u64_at b (o + 8))))

-- the union of v and the words of the rows
unfoldable pub joined : List ℕ → ℕ → List ℕ → ℕ
joined work v [] = v
joined work v (g ∷ gs) = joined work (bit_or v (get_or work g 0)) gs

-- i at each of the rows
unfoldable pub numbered : ℕ → List ℕ → List ℕ → List ℕ
numbered i ent [] = ent
numbered i ent (g ∷ gs) = numbered i (set ent g i) gs

-- the slots in the parts rs stand from `at` on, and name rows that have a word and an entry
pub record CopiesThere (b starts : List ℕ) (at : ℕ) (rs work ent : List ℕ) : Type 0 where
  pub room : at + 4 * length rs ≤ length b
  pub parts : (r : ℕ) → In r rs → r < length starts
  pub rows : (g : ℕ) → In g (copy_rows b starts at rs) → (g < length work) × (g < length ent)

-- row g, which stands at o in the lowest part of its set, and its copies
pub record EntityThere (b starts : List ℕ) (o g : ℕ) (work ent : List ℕ) : Type 0 where
  pub room : o + 48 ≤ length b
  pub some_part : 0 < u64_at b (o + 8)
  pub own : (g < length work) × (g < length ent)
  pub others : CopiesThere b starts (o + 48) (drop 1 (parts_in (u64_at b (o + 8)))) work ent
