-- No tight run takes more 0-jobs than a good run.
pub mod Condition
pub mod Later
pub mod Fresh
pub mod BothZero
pub mod Moved
pub mod ZeroOne
pub mod BothOne
pub mod Earliest
pub mod Dominance
pub mod Served
pub mod Main
