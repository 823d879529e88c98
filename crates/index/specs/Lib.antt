pub mod Index
pub mod Head
pub mod Places
pub mod Walk
pub mod Find
