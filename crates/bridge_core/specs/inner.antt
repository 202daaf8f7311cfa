pub mod Readies
pub mod VideoStreams
pub mod Parts
pub mod Control
pub mod Visits
