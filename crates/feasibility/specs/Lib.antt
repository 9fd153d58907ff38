pub mod PlanFrom
pub mod Fewest
pub mod AllBaked
pub mod Promise
