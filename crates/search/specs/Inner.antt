pub mod Seen
pub mod Counts
pub mod Start
pub mod Answers
pub mod Found
