-- The laws that the functions' proofs cite. Assumes nothing.
pub mod Walking
pub mod Unions
pub mod Marking
pub mod Copies
pub mod EachEntity
