pub mod Inner
pub mod Answers
