-- Boards of two sides: which side a tight job is on, what it is to be ahead on both sides, and good runs.
pub mod Board
pub mod Tight
pub mod Ahead
pub mod Run
