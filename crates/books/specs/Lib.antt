pub mod Book
pub mod Schedule
pub mod Rule
pub mod Rival
pub mod NoRegretRule
pub mod LeastLastSlot
