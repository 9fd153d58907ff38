pub mod Seen
pub mod Counts
pub mod Inner
