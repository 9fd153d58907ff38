pub mod Commas
pub mod Ends
pub mod Digits
pub mod Blank
