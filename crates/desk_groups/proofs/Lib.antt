pub mod RowLemmas
pub mod Freedom
pub mod Steps
pub mod Ranks
pub mod Groups
pub mod LegalCalls
