-- Boards with grades of any number of bits: the orders of the no-regret set, their runs, and what runs of each order take of each start.
pub mod Tree
pub mod NoRegret
pub mod Run
pub mod Alike
pub mod Project
pub mod Flatten
pub mod Better
