mod PendingLineLemmas
mod GuardLemmas
pub mod ReadingLemmas
pub mod RelayLemmas
mod SpeechLemmas
mod EditLemmas
pub mod VersionLemmas
