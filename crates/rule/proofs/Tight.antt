-- The tight laxity and the tight set of a list of jobs, its shortfall, what it leaves room for, and the tight slot of its counts.
pub mod Excess
pub mod Laxity
pub mod Shortfall
pub mod Promise
pub mod Counts
pub mod Slot
