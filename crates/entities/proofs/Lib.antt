pub mod Own
pub mod Parts
pub mod Fronts
pub mod Gatherings
pub mod Members
pub mod Distinct
pub mod MeshOrder
