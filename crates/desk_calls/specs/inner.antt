pub mod Sound
pub mod Memory
pub mod Kept
pub mod Touching
