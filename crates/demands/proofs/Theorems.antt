-- The theorems. Statements has the words, T1 to T3 say that sound is canonical, Demand2 and Demand3 are the demands sentence by sentence.
pub mod Statements
pub mod T1
pub mod T2
pub mod T3
pub mod SameBytes
pub mod Destinations
pub mod Went
pub mod Now
pub mod Histories
pub mod Sentences
pub mod Demand2
pub mod Demand3
