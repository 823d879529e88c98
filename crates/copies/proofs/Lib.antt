pub mod Loops
pub mod Compare
pub mod Placed
pub mod Shapes
pub mod Remote
pub mod Holders
