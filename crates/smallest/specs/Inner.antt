pub mod Excess
pub mod Lowest
