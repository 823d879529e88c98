-- Lemmas on plain values, for the proofs of this crate.
pub mod Words
pub mod Rows
pub mod Closing
pub mod Objects
pub mod Parts
