pub mod Stepping
pub mod Feeding
pub mod Running
