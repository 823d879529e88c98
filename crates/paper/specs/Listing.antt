-- The listing (document 01, "Small meshes to try", its last paragraph): the text that the listing program prints for what it has read, in
-- bytes of ASCII. An input of more than 65,536 bytes is `too long`, whatever the bytes are. Assumes nothing.
use Rattle.std.specs.Prelude.{ℕ, cond, List, [], ◌∷◌, ◌++◌, map, length, get_or, ltb}
use Rattle.laws.specs.Lists.{flat, up_to, zip}
use Rattle.part_set.specs.Masks.{others}
use Rattle.decimal.specs.Decimal
use Rattle.decimal.specs.Decimal.{decimal}
use Rattle.paper.specs.Outcome.{Outcome, refused, accepted}
use Rattle.paper.specs.Image.{Row, Set, no_row}
use Rattle.paper.specs.Sound
use Rattle.paper.specs.Sound.{sound_of}

-- ---- lines: one space stands between fields and a line feed after each line

unfoldable pub joined : List (List ℕ) → List ℕ
joined [] = []
joined (f ∷ []) = f
joined (f ∷ g ∷ fs) = f ++ (32 ∷ joined (g ∷ fs))

unfoldable pub line : List (List ℕ) → List ℕ
line fields = joined fields ++ (10 ∷ [])

-- a remote copy as part:slot
unfoldable pub copy_text : ℕ × ℕ → List ℕ
copy_text c = decimal c.0 ++ (58 ∷ decimal c.1)

-- part, slot, dimension, number, residence set, owner, and each remote copy
unfoldable pub row_line : ℕ → ℕ → Row → List ℕ
row_line p s r =
    line
    (map decimal (p ∷ s ∷ r.dim ∷ r.number ∷ r.mask ∷ r.owner ∷ [])
    ++ map copy_text (zip (others r.mask p) r.slots))

unfoldable pub part_lines : ℕ → List Row → List ℕ
part_lines p rows = flat (map (λ s. row_line p s (get_or rows s no_row)) (up_to (length rows)))

unfoldable pub set_line_list : Set → List ℕ
set_line_list S = flat (map (λ p. part_lines p (get_or S p [])) (up_to (length S)))

-- mark, version, part count: `DMP 1 n`
unfoldable pub head_line : ℕ → List ℕ
head_line n = line ((68 ∷ 77 ∷ 80 ∷ []) ∷ decimal 1 ∷ decimal n ∷ [])

-- `refused`
abbrev pub refused_word : List ℕ
refused_word = 114 ∷ 101 ∷ 102 ∷ 117 ∷ 115 ∷ 101 ∷ 100 ∷ []

-- `too long`
abbrev pub too_long : List ℕ
too_long = 116 ∷ 111 ∷ 111 ∷ 32 ∷ 108 ∷ 111 ∷ 110 ∷ 103 ∷ 10 ∷ []

-- ---- the text

-- a refusal prints one line only: `refused`, number, place
unfoldable pub answer_text : Outcome Set → List ℕ
answer_text (refused k p) = line (refused_word ∷ map decimal (k ∷ p.major ∷ p.minor ∷ []))
answer_text (accepted S) = head_line (length S) ++ set_line_list S

abbrev pub max_listing : ℕ
max_listing = 65536

unfoldable pub listing_of : List ℕ → List ℕ
listing_of b = cond (ltb max_listing (length b)) too_long (answer_text (sound_of b))

-- opens this module and those below it, for what is to compute
unfoldable pub computes : Unit {0}
unfolding Sound.computes Decimal.computes joined line copy_text row_line part_lines set_line_list head_line answer_text listing_of
computes = tt
