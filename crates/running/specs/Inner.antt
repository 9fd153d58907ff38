pub mod Days
pub mod Machines
