pub mod InARow
pub mod Looked
