pub mod Calls
pub mod Programs
