-- When a kind and its eight bytes stand for a value, as rule 7 wants. Assumes nothing.
use Rattle.std.specs.Prelude.{ℕ, ◌≤◌, not, T}
use Rattle.std.specs.Float.Ieee.{is_nan}
use Rattle.paper.specs.Image.{Row}
use Rattle.paper.specs.Sound.{value_fitting}
use Rattle.paper.specs.declared.Value.{Value}
use Rattle.paper.specs.declared.Value.TheVariants as value

-- a kind and its eight bytes stand for a value
pub record ValueStands (kind bits : ℕ) : Type 0 where
  pub few : kind ≤ 2
  pub fits : T (value_fitting kind bits)

-- a row's kind and value do so, as rule 7 wants
abbrev pub RowValueStands : Row → Type 0
RowValueStands r = ValueStands r.kind r.value

-- a real is no NaN
abbrev pub Plain : Value → Type 0
Plain value.Nothing = Unit {0}
Plain (value.Whole n) = Unit {0}
Plain (value.Real x) = T (not (is_nan x))
