-- No schedule takes more jobs than a run that takes a tight job whenever one is in date.
pub mod Run
pub mod NoMore
