-- Whole numbers in decimal: the digits of a number, and the number that a text is. Bytes of ASCII, no sign. Assumes nothing.
use Rattle.std.specs.Prelude.{ℕ, zero, suc, ◌+◌, ◌*◌, ◌-◌, ◌/◌, ◌%◌, Bool, ◌&&◌, cond, List, [], ◌∷◌, leb, ltb, Option, Some, None}

-- ---- written

-- the digits of n before those in `rest`, without leading zeros; k is at least the number of digits
unfoldable pub digits : ℕ → ℕ → List ℕ → List ℕ
digits zero n rest = rest
digits (suc k) n rest = let more = digits k (n / 10) ((48 + n % 10) ∷ rest) in cond (ltb n 10) ((48 + n) ∷ rest) more

-- a number below 2 ^ 64 has at most 20 digits
unfoldable pub decimal : ℕ → List ℕ
decimal n = digits 20 n []

-- ---- read

-- a character as the digit after those of n, if it is one and the number stays below 2 ^ 32
abbrev pub goes_on : ℕ → ℕ → Bool
goes_on n d = leb 48 d && leb d 57 && ltb (n * 10 + (d - 48)) 4294967296

-- the number whose digits come after those of n
unfoldable pub read_from : ℕ → List ℕ → Option ℕ
read_from n [] = Some n
read_from n (d ∷ ds) = let more = read_from (n * 10 + (d - 48)) ds in cond (goes_on n d) more None

-- the number that a text is: decimal digits alone, at least one, and below 2 ^ 32; zeros in front change nothing
unfoldable pub number_in : List ℕ → Option ℕ
number_in [] = None
number_in (d ∷ ds) = read_from 0 (d ∷ ds)

-- opens this module, for what is to compute
unfoldable pub computes : Unit {0}
unfolding digits decimal read_from number_in
computes = tt
