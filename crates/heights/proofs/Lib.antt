-- The theory by heights: tight slots, no-regret choices of each order, and who is beaten.
pub mod Heights
pub mod Schedule
pub mod Sides
pub mod Exchange
pub mod Trees
pub mod Items
pub mod Adversary
