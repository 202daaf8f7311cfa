pub mod Histories
pub mod Ranges
pub mod Reports
pub mod Represents
pub mod Stretches
pub mod Timings
pub mod inner
pub mod laws
