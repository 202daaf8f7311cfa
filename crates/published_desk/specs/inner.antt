pub mod BookRule
pub mod Page
pub mod ReaderRule
