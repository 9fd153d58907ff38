pub mod Calls
pub mod DayBook
pub mod Stretches
pub mod Demand3
pub mod Balance
pub mod GivenUpInOrder
pub mod Shortfall
pub mod Promise
