-- Laws of the writers.
pub mod Writing
pub mod Slots
pub mod Faces
pub mod Gathered
pub mod Rows
pub mod Parts
pub mod Right
