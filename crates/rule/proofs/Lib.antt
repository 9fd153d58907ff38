pub mod Worked
pub mod Bits
pub mod Tight
pub mod Earliest
pub mod NoRegret
