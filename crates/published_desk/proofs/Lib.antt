pub mod Prefixes
mod BookSteps
mod ReaderSteps
