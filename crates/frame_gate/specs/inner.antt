pub mod Cells
pub mod Kept
pub mod Ties
pub mod Walks
