pub mod Lines
pub mod Refusals
pub mod Output
pub mod Statements
pub mod Inner
