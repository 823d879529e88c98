-- Lemmas on plain values, for the proofs of this crate.
pub mod Sources
pub mod Placing
pub mod Amounts
pub mod Outcomes
pub mod Answers
pub mod Judging
pub mod Fitting
