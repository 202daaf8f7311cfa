pub mod Collected
pub mod Once
