-- What follows from the demands and is asked of a migrator: woken twice, empty lists, lists taken back, nothing lost, nothing summed twice, one
-- answer only, wrong programs.
pub mod Accepted
pub mod Changes
pub mod Lands
pub mod Again
pub mod Empty
pub mod ReverseList
pub mod Reverse
pub mod Nothing
pub mod Examples
pub mod Sums
pub mod Once
pub mod EmptyPart
pub mod Unique
pub mod Programs
pub mod WrongPrograms
pub mod ErrorsMade
