pub mod Select
pub mod Least
pub mod Rise
pub mod Before
pub mod Sorted
