pub mod Commas
pub mod Decimals
pub mod Lines
