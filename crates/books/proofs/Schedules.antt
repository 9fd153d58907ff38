pub mod Counts
pub mod Plans
pub mod Realised
