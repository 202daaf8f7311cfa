pub mod Kept
pub mod Phases
pub mod Stands
