pub mod InLimits
pub mod Answer
pub mod Placed
pub mod Whole
