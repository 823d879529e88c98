-- The entities of a mesh in the order of their names, as rows: where a name stands among them, and what else their tables say.
-- Assumes nothing.
use Rattle.std.specs.Prelude.{ℕ, ◌≤◌, ◌<◌, ◌≡◌, List, length, get_or, T, eqb}
use Rattle.laws.specs.Lists.{flat}
use Rattle.paper.specs.Image.{Set}
use Rattle.paper.specs.Mesh.{parts_of, is_object, holds}
use Rattle.merge.specs.Runs.{key_in}

-- the first `count` entries of ord are rows, and their names ascend strictly
pub record Listing (keys ord : List ℕ) (count : ℕ) : Type 0 where
  pub within : count ≤ length ord
  pub row : (j : ℕ) → j < count → get_or ord j 0 < length keys
  pub up : (i j : ℕ) → i < j → j < count → key_in keys (get_or ord i 0) < key_in keys (get_or ord j 0)

-- the name x has a place
abbrev pub Present : List ℕ → List ℕ → ℕ → ℕ → Type 0
Present keys ord count x = (j : ℕ) × (j < count) × (key_in keys (get_or ord j 0) ≡ x)

-- the name x has a place, and its row is not covered
abbrev pub Uncovered : List ℕ → List ℕ → List ℕ → ℕ → ℕ → Type 0
Uncovered keys ord covered count x = (j : ℕ) × (j < count) × (key_in keys (get_or ord j 0) ≡ x) × (get_or covered (get_or ord j 0) 0 ≡ 0)

-- all before i are below x
pub record Behind (keys ord : List ℕ) (count x i : ℕ) : Type 0 where
  pub to : i ≤ count
  pub below : (j : ℕ) → j < i → key_in keys (get_or ord j 0) < x

-- i is the first of them whose name is not below x, or count
pub record Lower (keys ord : List ℕ) (count x i : ℕ) : Type 0 where
  pub behind : Behind keys ord count x i
  pub above : i < count → x ≤ key_in keys (get_or ord i 0)

-- they are the entities of the set, and a row that is covered is no object
pub record Catalog (S : Set) (keys ord covered : List ℕ) (count : ℕ) : Type 0 where
  pub listing : Listing keys ord count
  pub row : (j : ℕ) → j < count → get_or ord j 0 < length covered
  pub held : (j : ℕ) → j < count → T (holds (flat (parts_of S)) (key_in keys (get_or ord j 0)))
  pub all : (k : ℕ) → T (holds (flat (parts_of S)) k) → Present keys ord count k
  pub object : (j : ℕ) → j < count → eqb (get_or covered (get_or ord j 0) 0) 0 ≡ is_object (flat (parts_of S)) (key_in keys (get_or ord j 0))
