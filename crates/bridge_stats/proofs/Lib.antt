pub mod DropLemmas
pub mod Entries
pub mod Folds
pub mod GrowLemmas
pub mod OutcomeLemmas
pub mod ShownLemmas
pub mod TallyLemmas
pub mod WholeLemmas
