pub mod Facts
pub mod Apart
pub mod Together
pub mod HeldCount
pub mod FreePlace
pub mod Room
