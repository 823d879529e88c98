pub mod Sending
pub mod Counting
pub mod Sweep
