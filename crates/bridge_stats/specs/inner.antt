pub mod Growing
pub mod Kept
pub mod Said
pub mod Tallies
