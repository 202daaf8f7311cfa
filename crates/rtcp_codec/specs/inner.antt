pub mod Greedy
pub mod Reading
