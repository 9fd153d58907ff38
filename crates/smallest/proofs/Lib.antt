pub mod Signed
pub mod Lowest
