pub mod Addressed
pub mod Grouped
pub mod Index
pub mod Parting
pub mod Roomed
