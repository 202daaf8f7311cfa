pub mod Cursor
pub mod Shown
pub mod Pieces
pub mod Steps
