mod FreeLemmas
mod LearnLemmas
mod LeaseLemmas
mod LeaseSteps
mod WatchLemmas
