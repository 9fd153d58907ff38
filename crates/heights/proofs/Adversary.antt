-- Whoever leaves an order is beaten by arrivals with allowed grades.
pub mod Allowed
pub mod Arrivals
pub mod Pinned
pub mod Bounds
pub mod Most
pub mod Least
pub mod Trap
pub mod Bottom
pub mod FirstBit
pub mod Held
pub mod Lifted
pub mod Beaten
pub mod Level0
