pub mod Programs
pub mod Prints
