-- Which of an answer's numbers is which: for each case of an answer's enum, what it says of an image, with numbers that differ, by
-- computation. That each answer says no less is in proofs/Injective.antt. Assumes nothing.
use mathlib.Core.Path.{◌≡◌, refl}
use mathlib.Core.List.{[], ◌∷◌, ◌++◌}
use lib.Ieee.{binary64, of_bits}
use lib.ListN.{set}
use Rattle.paper.specs.declared.Value.TheVariants as value
use Rattle.paper.specs.Outcome.{at_row, refusal, answered}
use Rattle.paper.specs.Sound.{check_of}
use Rattle.paper.specs.Move
use Rattle.paper.specs.Move.{migrate_of, sizes_of}
use Rattle.paper.specs.Lookup
use Rattle.paper.specs.Lookup.{lookup_of}
use Rattle.paper.specs.Box
use Rattle.paper.specs.Box.{box_asked}
use Rattle.paper.specs.Answers.{value_of, check_answer, migrate_answer, lookup_answer, box_answer}
use Rattle.paper.proofs.Meshes.{one, image_with, A, B}
use Rattle.paper.proofs.OwnMeshes.{two, three, minus_one, minus_two, minus_three, vertex, first, second, kit}
use Rattle.paper.proofs.Table.{send}
use Rattle.std.specs.Prelude.{Err, Ok, None, Some}
use Rattle.paper.specs.Given.{sound_answer_of, moved_answer_of, found_answer_of}

pub check_sound : check_answer (sound_answer_of 2 11) ≡ check_of A
unfolding Move.computes
check_sound = refl

-- part, then slot
pub check_refused : check_answer (Err (refusal 10 (at_row 0 1))) ≡ check_of (set B 108 1)
unfolding Move.computes
check_refused = refl

pub migrate_moved : migrate_answer (moved_answer_of 712 14 1) ≡ answered sizes_of (migrate_of A (send 2 2 1) 712 11)
unfolding Move.computes
migrate_moved = refl

-- entry, then 0
pub migrate_refused : migrate_answer (Err (refusal 13 (at_row 1 0))) ≡ answered sizes_of (migrate_of kit (send 0 5 1 ++ (0 ∷ [])) 208 4)
unfolding Move.computes
migrate_refused = refl

pub lookup-found : lookup_answer (found_answer_of 2 (record { 0 = 1 })) ≡ lookup_of (second (vertex 1 0 0 0)) 0 1
unfolding Move.computes Lookup.computes
lookup-found = refl

pub lookup_refused : lookup_answer (Err (refusal 7 (at_row 1 0))) ≡ lookup_of (set (second (vertex 1 0 0 0)) 23 1) 0 1
unfolding Move.computes Lookup.computes
lookup_refused = refl

pub box_none : box_answer (Ok None) ≡ box_asked (first (vertex 1 0 0 0)) 1
unfolding Move.computes Box.computes
box_none = refl

pub box_around_lem :
    box_answer
    (Ok (Some
    (record {
      least = record { x = of_bits binary64 minus_one; y = of_bits binary64 minus_two; z = of_bits binary64 minus_three };
      greatest = record { x = of_bits binary64 one; y = of_bits binary64 two; z = of_bits binary64 three };
    })))
    ≡ box_asked (image_with ((vertex 1 one two three ∷ vertex 2 minus_one minus_two minus_three ∷ []) ∷ [])) 0
unfolding Move.computes Box.computes
box_around_lem = refl

pub box_refused : box_answer (Err (refusal 7 (at_row 1 0))) ≡ box_asked (set (second (vertex 1 0 0 0)) 23 1) 0
unfolding Move.computes Box.computes
box_refused = refl

-- an entity's value is nothing, a whole number or a finite real
pub value_nothing : value_of 0 0 ≡ value.Nothing
value_nothing = refl

pub value_whole : value_of 1 7 ≡ value.Whole 7
value_whole = refl

pub value_real : value_of 2 one ≡ value.Real (of_bits binary64 one)
value_real = refl
