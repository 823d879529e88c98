pub mod Accepted
pub mod Points
pub mod Growing
pub mod Looking
