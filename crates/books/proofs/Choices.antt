pub mod OurChoice
pub mod KeptChoice
pub mod Follow
