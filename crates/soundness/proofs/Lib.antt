pub mod Steps
pub mod Sharing
pub mod Walk
pub mod Parts
