pub mod Room
pub mod Runs
pub mod Status
