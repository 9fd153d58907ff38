pub mod Chunks
pub mod Whole
pub mod Inputs
