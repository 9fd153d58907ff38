pub mod Parts
pub mod Ends
pub mod Known
pub mod Extending
