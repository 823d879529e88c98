pub mod LowestCopies
pub mod Gathering
