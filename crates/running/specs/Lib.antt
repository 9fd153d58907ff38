pub mod Inner
pub mod Runs
