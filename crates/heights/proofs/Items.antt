-- Lists of items with last slots and grades, and their trees.
pub mod Item
pub mod Side
pub mod Tree
pub mod Lift
pub mod Both
