pub mod PageRoom
pub mod LastPage
pub mod Closings
pub mod PrintedLines
pub mod PrintedPages
pub mod WhereFits
