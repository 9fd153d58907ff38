pub mod Future
pub mod Stage
pub mod Allowed
pub mod Turning
pub mod RunOn
