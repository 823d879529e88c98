pub mod Sizing
pub mod Steps
