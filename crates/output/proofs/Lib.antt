-- Laws of pieces and lists; then what the tables say, the rows that are made of them, and the image. Assumes nothing.
pub mod Growing
pub mod Members
pub mod Listed
pub mod TablesFilled
pub mod Masks
pub mod Stages
pub mod Source
pub mod Ready
pub mod Image
