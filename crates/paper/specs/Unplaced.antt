-- The numbers of the refusals that have no place (document 01, "Refusal numbers"). Assumes nothing.
use Rattle.std.specs.Prelude.{ℕ}
use Rattle.paper.specs.declared.Unplaced.{Unplaced}
use Rattle.paper.specs.declared.Unplaced.TheVariants.{ImageTooLong, ImageTooShort, WrongMark, WrongVersion, WrongCount, NotFilled, WorkTooShort, ResultTooLong, OutputTooShort, NoSuchPart, NoSuchEntity}

abbrev pub number_of_unplaced : Unplaced → ℕ
number_of_unplaced ImageTooLong = 1
number_of_unplaced ImageTooShort = 2
number_of_unplaced WrongMark = 3
number_of_unplaced WrongVersion = 4
number_of_unplaced WrongCount = 5
number_of_unplaced NotFilled = 6
number_of_unplaced WorkTooShort = 17
number_of_unplaced ResultTooLong = 18
number_of_unplaced OutputTooShort = 19
number_of_unplaced NoSuchPart = 20
number_of_unplaced NoSuchEntity = 21
