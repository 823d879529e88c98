pub mod Faults
pub mod Ready
pub mod Stages
pub mod Tests
