pub mod Places
pub mod SentLemmas
mod EndedLemmas
pub mod HandledLemmas
