pub mod KeptLemmas
pub mod WordLemmas
