pub mod Counters
pub mod MixCounters
pub mod Row
pub mod Sharing
