pub mod JobSeen
pub mod KeySeen
pub mod Filling
pub mod Along
