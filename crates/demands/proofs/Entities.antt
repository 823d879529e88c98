-- Entities by their names: lists of them in order, and closures, with no word of rows.
pub mod Names
pub mod Sorted
pub mod Closed
pub mod Fits
pub mod Closures
pub mod Owners
