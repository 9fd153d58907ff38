pub mod Rivals
pub mod Next
pub mod Characterised
pub mod OurRule
pub mod NeverIdle
pub mod LeastLastSlot
