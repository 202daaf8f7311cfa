pub mod inner
pub mod Answers
pub mod Drops
pub mod Lines
pub mod Queues
pub mod Told
pub mod Words
