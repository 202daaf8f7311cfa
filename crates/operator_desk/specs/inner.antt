pub mod DeskInner
pub mod Tokens
