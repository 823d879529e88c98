pub mod Laws
pub mod Zeros
pub mod Keys
