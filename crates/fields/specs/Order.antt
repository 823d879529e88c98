-- Rule 8 off the tables of an image. Assumes nothing.
use Rattle.std.specs.Prelude.{ℕ, ◌+◌, ◌-◌, Bool, ◌||◌, List, get_or, eqb, ltb}

-- row s of part p is the first of its part, or its key is above that of the row before it
unfoldable pub key_ascends : List ℕ → List ℕ → ℕ → ℕ → Bool
key_ascends keys starts p s = eqb s 0 || ltb (get_or keys (get_or starts p 0 + s - 1) 0) (get_or keys (get_or starts p 0 + s) 0)
