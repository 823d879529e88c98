pub mod Entries
pub mod Rows
pub mod Written
pub mod Sources
