pub mod Follows
pub mod Spans
pub mod Moving
pub mod Sound
