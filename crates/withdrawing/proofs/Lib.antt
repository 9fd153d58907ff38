pub mod Sought
pub mod Rows
pub mod OnSound
