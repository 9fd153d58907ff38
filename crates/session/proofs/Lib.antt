pub mod Steps
pub mod Entries
pub mod Closings
pub mod Requests
pub mod Kept
pub mod Refused
pub mod Listed
