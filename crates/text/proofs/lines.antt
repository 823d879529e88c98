pub mod Parts
pub mod Copies
pub mod Rows
