pub mod OnPage
pub mod Handed
pub mod Refused
