pub mod Below
pub mod Windows
pub mod Assignments
pub mod Choice
pub mod Layout
pub mod Answer
pub mod Hindsight
