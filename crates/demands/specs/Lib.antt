pub mod Passed
pub mod History
pub mod Reverse
pub mod Programs
pub mod WrongPrograms
pub mod Sums
