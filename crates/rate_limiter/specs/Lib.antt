pub mod Buckets
pub mod Drafts
pub mod Steps
pub mod inner
