-- Rows, their bytes and their tests: bodies, rows that parts make, first faults.
pub mod Bytes
pub mod Bodies
pub mod ReadBack
pub mod Made
pub mod Few
pub mod Faults
pub mod Entries
