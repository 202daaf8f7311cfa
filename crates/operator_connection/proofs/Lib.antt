mod CallerLemmas
mod LawLemmas
pub mod SittingLemmas
mod TalkLemmas
