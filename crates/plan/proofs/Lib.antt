-- Lemmas on plain values, for the crates above.
pub mod Sources
