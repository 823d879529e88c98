pub mod Vertices
