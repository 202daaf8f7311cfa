pub mod CutLemmas
pub mod WholeLemmas
pub mod ShortLemmas
