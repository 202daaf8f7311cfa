pub mod Sources
pub mod Choices
pub mod Requests
pub mod Steps
