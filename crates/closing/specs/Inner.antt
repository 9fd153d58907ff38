pub mod InLimits
pub mod Answered
