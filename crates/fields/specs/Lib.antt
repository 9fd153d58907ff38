pub mod Results
pub mod Numbers
pub mod Grades
