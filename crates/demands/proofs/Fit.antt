-- Parts that fit: the one record between sets and meshes, and the arrows from it.
pub mod Record
pub mod Held
pub mod Rows
pub mod Fields
pub mod Order
pub mod Copies
pub mod Residence
pub mod ToSound
pub mod ToMesh
pub mod Where
