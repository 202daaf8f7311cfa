pub mod Failures
pub mod Others
pub mod ToldLemmas
pub mod TakenLemmas
