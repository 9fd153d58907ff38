pub mod Known
pub mod Walk
pub mod Thinning
pub mod Grades
pub mod Soundness
pub mod Calls
pub mod Tallies
pub mod Refusals
