pub mod Below
pub mod Windows
pub mod Choice
pub mod Laying
pub mod Best
pub mod Hindsight
