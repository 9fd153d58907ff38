pub mod Kept
pub mod JobRun
pub mod AnyRun
pub mod KeptRuns
pub mod Unbeaten
