pub mod Entries
pub mod Catalog
pub mod Stages
