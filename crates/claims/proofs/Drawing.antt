pub mod Runs
pub mod Steps
pub mod Stretching
pub mod Alone
