pub mod Numbers
pub mod Reading
pub mod Finite
pub mod Stores
