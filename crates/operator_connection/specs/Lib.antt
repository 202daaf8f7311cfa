pub mod Acts
pub mod Connection
pub mod Deeds
pub mod Greeting
pub mod LineLogs
pub mod Readiness
pub mod Talking
pub mod Talks
