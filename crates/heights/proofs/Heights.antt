-- Parts of a board by their counts, heights, the tight slot, and the removal law with its converse.
pub mod Part
pub mod Counted
pub mod OneMore
pub mod Reach
pub mod TightSlot
pub mod Exists
pub mod Removal
