pub mod Agrees
pub mod Cells
pub mod Counts
pub mod Holds
