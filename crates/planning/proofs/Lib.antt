pub mod Baked
pub mod Slots
