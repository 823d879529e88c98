-- Meshes and placements: the parts that they spread into fit.
pub mod Places
pub mod Spread
pub mod ToFit
