-- The cases of document 01 that are not marked P, its listing, and sentences of it that its cases leave open: by computation, as the P
-- cases are, and beside their table. Assumes nothing.
use mathlib.Core.Path.{◌≡◌, refl}
use mathlib.Core.List.{[], ◌∷◌}
use lib.Ieee.{to_bits}
use lib.ListN.{set}
use Rattle.decimal.specs.Decimal.{decimal}
use Rattle.paper.specs.Move
use Rattle.paper.specs.Box
use Rattle.paper.specs.Listing
use Rattle.paper.specs.Listing.{listing_of}
use Rattle.paper.specs.Move.{migrate_of}
use Rattle.paper.proofs.Meshes.{one, A, B}
use Rattle.paper.proofs.Table.{Cases, wrong, check, send, move, numbers, image, box, ascii, text}

abbrev pub more : Cases
more =
    -- 12: case 2 with 711 output bytes: 19; with 712: accepted. With 10 working words: 17; with 11: accepted
    (numbers (migrate_of A (send 2 2 1) 711 11), 19 ∷ 0 ∷ 0 ∷ [])
    ∷ (numbers (migrate_of A (send 2 2 1) 712 11), 0 ∷ 712 ∷ 14 ∷ 1 ∷ [])
    ∷ (numbers (migrate_of A (send 2 2 1) 712 10), 17 ∷ 0 ∷ 0 ∷ [])
    -- 13: box of part 1 in B: (0,0,0) to (1,1,0); of part 1 in A: no vertex
    ∷ (box B 1, 0 ∷ 0 ∷ 0 ∷ 0 ∷ one ∷ one ∷ 0 ∷ [])
    ∷ (box A 1, 0 ∷ [])
    -- "A destination may be the present part; that entry moves nothing"
    ∷ (numbers (move B (send 2 2 1)), 0 ∷ 712 ∷ 14 ∷ 0 ∷ [])
    ∷ (image (move B (send 2 2 1)), B)
    -- two histories to one placement end in the same bytes: there, there and back, and at once
    ∷ (image (move (image (move (image (move A (send 2 1 1))) (send 2 2 1))) (send 2 1 0)), image (move A (send 2 2 1)))
    -- "and that row names this row's slot back": vertex 2 of part 1 stands at 364 and names slot 1 of part 0. Made to name slot 2, it is
    -- at fault itself, and so is the row that is not named back, which comes first
    ∷ (check (set B 412 2), 10 ∷ 0 ∷ 1 ∷ [])
    ∷ []

pub more_hold : wrong 0 more ≡ []
unfolding Move.computes Box.computes to_bits
more_hold = refl

-- ---- the listing

-- of B, as the document prints it
pub listing_B :
    listing_of B
    ≡ text
    ("DMP 1 2"
    ∷ "0 0 0 1 1 0"
    ∷ "0 1 0 2 3 0 1:0"
    ∷ "0 2 0 3 3 0 1:1"
    ∷ "0 3 1 1 1 0"
    ∷ "0 4 1 2 1 0"
    ∷ "0 5 1 3 3 0 1:3"
    ∷ "0 6 2 1 1 0"
    ∷ "1 0 0 2 3 0 0:1"
    ∷ "1 1 0 3 3 0 0:2"
    ∷ "1 2 0 4 2 1"
    ∷ "1 3 1 3 3 0 0:5"
    ∷ "1 4 1 4 2 1"
    ∷ "1 5 1 5 2 1"
    ∷ "1 6 2 2 2 1"
    ∷ [])
unfolding Move.computes Listing.computes
listing_B = refl

-- of case 9: a refusal prints one line only
pub listing_refused : listing_of (set B 108 1) ≡ text ("refused 10 0 1" ∷ [])
unfolding Move.computes Listing.computes
listing_refused = refl

-- a number of twenty digits, the largest residence set; 0 has one digit
pub decimal-largest : decimal 18446744073709551615 ≡ ascii "18446744073709551615"
unfolding Listing.computes
decimal-largest = refl

pub decimal_zero : decimal 0 ≡ ascii "0"
unfolding Listing.computes
decimal_zero = refl
