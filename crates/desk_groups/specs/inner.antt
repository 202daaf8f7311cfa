pub mod Ranked
pub mod Cutting
