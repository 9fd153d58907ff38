-- A grade's bits, for all depths together.
pub mod Number
pub mod Starts
pub mod Reading
