pub mod Along
pub mod Ending
pub mod LineTaken
pub mod Taken
