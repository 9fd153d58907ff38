pub mod ByGrade
pub mod Answer
pub mod Exact
pub mod OnSound
