pub mod Parts
pub mod Growing
pub mod Pieces
