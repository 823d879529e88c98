pub mod Joining
pub mod CopyRows
