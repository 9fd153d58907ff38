pub mod Fitting
pub mod Left
