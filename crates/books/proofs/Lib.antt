pub mod Walks
pub mod Schedules
pub mod Runs
pub mod Choices
pub mod Adversary
pub mod Levels
