pub mod Edits
pub mod Levels
pub mod Moving
pub mod Parts
