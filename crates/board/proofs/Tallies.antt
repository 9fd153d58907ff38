pub mod CountAt
pub mod Kinds
pub mod Fed
pub mod FedCounts
