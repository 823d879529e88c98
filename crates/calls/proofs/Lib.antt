-- Demands 1, 2 and 3 and what follows from them, said of any sequence of calls. A reader begins with Demand1; Answered and Runs are the way there.
pub mod Answered
pub mod Canonical
pub mod Runs
pub mod Demand1
pub mod Demand2
pub mod Demand3
pub mod Lookups
pub mod Results
pub mod Programs
