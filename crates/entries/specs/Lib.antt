pub mod Inner
pub mod Entries
