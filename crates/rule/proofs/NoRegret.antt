-- The no-regret set: what is in it, the descent to it one bit at a time, and the same in the tree of the jobs.
pub mod Within
pub mod ByBit
pub mod Items
pub mod Chosen
pub mod Leaf
pub mod Order
pub mod Start
