-- Theorems about the definitions of crate paper. A reader begins with Theorems (its Statements, Demand2, Demand3); the groups before it are the way.
pub mod Entities
pub mod Rows
pub mod Sound
pub mod Fit
pub mod Mesh
pub mod Theorems
pub mod ForCode
pub mod Results
