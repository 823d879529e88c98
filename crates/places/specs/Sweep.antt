-- The part of each row, written in two sweeps: over the rows of each part, then over the entries of the list. Assumes nothing: these are definitions.
use Rattle.std.specs.Prelude.{ℕ, ◌+◌, ◌*◌, ◌≤◌, ◌<◌, ◌≡◌, List, length, get_or, set}
use Rattle.paper.specs.Move.{entry_name, entry_part, all_entries}
use Rattle.merge.specs.Runs.{key_in}
use Rattle.moves.specs.Catalog.{Present, Behind, Lower}

-- ---- each row its own part

-- each row has its own part
pub record Stayed (starts : List ℕ) (n : ℕ) (dest dest' : List ℕ) : Type 0 where
  pub same : length dest' ≡ length dest
  pub own : (p g : ℕ) → p < n → get_or starts p 0 ≤ g → g < get_or starts (p + 1) 0 → get_or dest' g 0 ≡ p

-- ---- the entries of the list

-- entry i is whole, its entity is there, and all before `from` is below its name
pub record EntryAhead (l keys ord dest : List ℕ) (count from i : ℕ) : Type 0 where
  pub room : (j : ℕ) → j < count → get_or ord j 0 < length dest
  pub whole : 8 * i + 8 ≤ length l
  pub part : entry_part l i < 256
  pub there : Present keys ord count (entry_name l i)
  pub behind : Behind keys ord count (entry_name l i) from

-- the row of its entity, which stands at j, has the entry's part
pub record EntrySent (l keys ord : List ℕ) (count i : ℕ) (dest dest' : List ℕ) (j : ℕ) : Type 0 where
  pub lower : Lower keys ord count (entry_name l i) j
  pub put : dest' ≡ set dest (get_or ord j 0) (entry_part l i)

-- the entries are whole, their names ascend, and each names an entity
pub record Addressed (l keys ord : List ℕ) (count : ℕ) : Type 0 where
  pub whole : (i : ℕ) → i < all_entries l → 8 * i + 8 ≤ length l
  pub part : (i : ℕ) → i < all_entries l → entry_part l i < 256
  pub up : (i : ℕ) → i + 1 < all_entries l → entry_name l i < entry_name l (i + 1)
  pub there : (i : ℕ) → i < all_entries l → Present keys ord count (entry_name l i)

-- the row of each entity that one of the first i entries names has that entry's part, and any other row is as it was
pub record Sent (l keys ord : List ℕ) (count i : ℕ) (dest dest' : List ℕ) : Type 0 where
  pub same : length dest' ≡ length dest
  pub listed : (e j : ℕ) → e < i → j < count → key_in keys (get_or ord j 0) ≡ entry_name l e → get_or dest' (get_or ord j 0) 0 ≡ entry_part l e
  pub other : (g : ℕ) → ((e j : ℕ) → e < i → j < count → key_in keys (get_or ord j 0) ≡ entry_name l e → get_or ord j 0 ≡ g → ⊥)
      → get_or dest' g 0 ≡ get_or dest g 0
