pub mod Job
pub mod Grade
pub mod Tight
pub mod Shortfall
pub mod Promise
pub mod Descent
pub mod Bake
pub mod Worked
