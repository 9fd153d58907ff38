pub mod Letters
pub mod LineRows
pub mod Says
pub mod Examples
