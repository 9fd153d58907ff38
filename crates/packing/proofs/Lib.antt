pub mod Places
pub mod Moving
pub mod OnSound
pub mod Keeping
